-- How far a call comes, told by the code's answer and what it leaves in the slices.
use Rattle.std.specs.Prelude.{ℕ, ◌<◌, ◌≡◌, List, Bool, true, false, ◌&&◌, length, take, ℤ, eqb, Result, Ok, Err}
use Rattle.paper.specs.Answer as paper
use Rattle.paper.specs.Answer.{Given, Found, stopped, found, reach}
use Rattle.paper.specs.Matching.{entry_at, matched_count, unreceived_count}
use Rattle.reading.specs.Starts.{start_of}
use Rattle.store.specs.Layout.{entries_in, start_from}
use Rattle.chains.specs.Places.{places_of}
use Rattle.engine.specs.Promise.{all_are}
use Rattle.answer.specs.declared.Counts.{Counts}
use Rattle.reach.specs.declared.Unreached.{Unreached}

-- the store and every slice are made for as many records as a call may list
unfoldable pub fits : ℕ → ℕ → List ℕ → Bool
fits most room lengths = eqb room most && all_are room lengths

-- what was counted of a trace whose times were found, and where its records, their sends and their times are
pub record Held (trace : List ℕ) (f : Found) (counts : Counts) (store sends : List ℕ) (times : List ℤ) : Type 0 where
  pub listed : length f.reading.entries ≡ counts.listed
  pub passed : f.reading.state.passed ≡ counts.passed
  pub matched : matched_count f.reading.entries ≡ counts.matched
  pub unreceived : unreceived_count f.reading.entries ≡ counts.unreceived
  pub rounds : f.rounds ≡ counts.rounds
  pub entries : entries_in store counts.listed ≡ f.reading.entries
  pub starts : (k : ℕ) → k < counts.listed → start_from store k ≡ start_of trace (entry_at f.reading.entries k).line
  pub places : take counts.listed sends ≡ places_of f.reading.entries
  pub new : take counts.listed times ≡ f.times

-- the answer is how far the paper's call comes
unfoldable pub reaches : List ℕ → paper.Reached → Result Counts Unreached → (store sends : List ℕ) → List ℤ → Type 0
reaches trace x (Ok counts) store sends times = (f : Found) × (x ≡ found f) × Held trace f counts store sends times
reaches trace x (Err (Unreached.Refused refusal)) store sends times = x ≡ stopped refusal.fault refusal.site
reaches trace x (Err Unreached.Misfit) store sends times = ⊥

-- an answer where the slices fit, and none where they do not
pub record ReachedBy (fits : Bool) (g : Given) (r : Result Counts Unreached) (store sends : List ℕ) (times : List ℤ) : Type 0 where
  pub answers : fits ≡ true → reaches g.trace (reach g) r store sends times
  pub misfits : fits ≡ false → r ≡ (Err Unreached.Misfit)
