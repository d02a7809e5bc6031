-- What matching the messages of a store comes to: the answer, and what the two lent slices hold afterwards.
use Rattle.std.specs.Prelude.{ℕ, List, Bool, cond, ◌&&◌, length, replicate, leb, Result, Ok, Err}
use Rattle.paper.specs.Matching.{entry_at, call_for, on_call, matched_of, matched_count, unreceived_count}
use Rattle.paper.specs.declared.Entry.{Entry}
use Rattle.store.specs.Layout.{capacity, entries_in}
use Rattle.chains.specs.Places.{places_of, places_fit}
use Rattle.paper.specs.declared.Refusal.{Refusal}
use Rattle.message.specs.declared.Unmatched.{Unmatched}

pub record Outcome : Type 0 where
  pub answer : Result (ℕ × ℕ) Unmatched
  pub sends : List ℕ
  pub link : List ℕ

abbrev pub outcome : Result (ℕ × ℕ) Unmatched → (sends link : List ℕ) → Outcome
outcome answer sends link = record { answer = answer; sends = sends; link = link }

abbrev pub answer_for : List Entry → Result Unit Refusal → Result (ℕ × ℕ) Unmatched
answer_for es (Err refusal) = Err (Unmatched.Refused refusal)
answer_for es (Ok tt) = Ok (matched_count es, unreceived_count es)

unfoldable pub answer_of : List Entry → Result (ℕ × ℕ) Unmatched
answer_of es = answer_for es (matched_of es)

-- as many links as places, not too many of them, and room in the store for as many records
unfoldable pub fitting : List ℕ → List ℕ → List ℕ → Bool
fitting store sends link = places_fit sends link && leb (length sends) (capacity store)

-- the places of the sends, and the links cleared; where the three do not fit, nothing is touched
unfoldable pub matching : List ℕ → List ℕ → List ℕ → Outcome
matching store sends link =
    let es = entries_in store (length sends) in
    cond (fitting store sends link) (outcome (answer_of es) (places_of es) (replicate (length sends) 0)) (outcome (Err Unmatched.Misfit) sends link)

-- ---- for the functions below

-- what entry i calls for, as where a reading ends
unfoldable pub stop_at : List Entry → ℕ → Result Unit Refusal
stop_at es i = on_call (call_for es i (entry_at es i).body.role) (entry_at es i).line (Ok tt)
