-- What the times of a store's records come to: the answer, and what the lent places and times hold afterwards.
use Rattle.std.specs.Prelude.{ℕ, ◌<◌, ◌≤◌, ◌≡◌, List, Bool, true, false, cond, ◌&&◌, length, ℤ, leb, ltb, eqb, Result, Ok, Err}
use Rattle.paper.specs.Tests.{all_up_to}
use Rattle.paper.specs.Clock as paper
use Rattle.paper.specs.Clock.{settled, impossible}
use Rattle.paper.specs.Matching.{matched_of, matched_count, unreceived_count, waits_of}
use Rattle.paper.specs.declared.Entry.{Entry}
use Rattle.store.specs.Layout.{too_many, capacity, entries_in}
use Rattle.engine.specs.Promise.{all_are, widest}
use Rattle.chains.specs.Places.{places_of}
use Rattle.waits.specs.Tables.{gaps_of}
use Rattle.message.specs.declared.Unmatched.{Unmatched}
use Rattle.engine.specs.declared.Unsettled.{Unsettled}
use Rattle.solve.specs.declared.Unsolved.{Unsolved}

-- n records, for which there is room, and a place for each in every slice
unfoldable pub fitting : ℕ → ℕ → List ℕ → Bool
fitting n room lengths = ltb n too_many && leb n room && all_are n lengths

-- records that a trace may list, of whose gaps at most the whole is kept: a trace has no wider ones
pub record Keepable (share : ℕ) (es : List Entry) : Type 0 where
  pub few : share ≤ 1000
  pub narrow : all_up_to widest (gaps_of share es) ≡ true

-- the times of the entries, with what was counted; the places of the sends in one slice, the times in the other
pub record Solution (share : ℕ) (table : List ℕ) (es : List Entry) (matched unreceived rounds : ℕ) (sends : List ℕ) (times : List ℤ) : Type 0 where
  pub matches : matched_of es ≡ Ok tt
  pub settles : paper.settle (waits_of share table es) ≡ settled rounds times
  pub places : sends ≡ places_of es
  pub many : matched ≡ matched_count es
  pub left : unreceived ≡ unreceived_count es

unfoldable pub solved_by : ℕ → List ℕ → List Entry → Result (ℕ × ℕ × ℕ) Unsolved → List ℕ → List ℤ → Type 0
solved_by share table es (Ok (matched, unreceived, rounds)) sends times = Solution share table es matched unreceived rounds sends times
solved_by share table es (Err (Unsolved.Refused refusal)) sends times = matched_of es ≡ Err refusal
solved_by share table es (Err Unsolved.Impossible) sends times = (matched_of es ≡ Ok tt) × (paper.settle (waits_of share table es) ≡ impossible)
solved_by share table es (Err Unsolved.Misfit) sends times = ⊥

-- an answer where the slices fit and the gaps can be kept, and none where the slices do not fit
pub record SolvedInto (fits : Bool) (share : ℕ) (table : List ℕ) (es : List Entry) (r : Result (ℕ × ℕ × ℕ) Unsolved) (sends : List ℕ) (times : List ℤ) : Type 0 where
  pub answers : fits ≡ true → Keepable share es → solved_by share table es r sends times
  pub misfits : fits ≡ false → r ≡ Err Unsolved.Misfit

-- ---- for the functions below

-- the same reasons, of the messages and of the engine
abbrev pub unmatched_as : Unmatched → Unsolved
unmatched_as (Unmatched.Refused refusal) = Unsolved.Refused refusal
unmatched_as Unmatched.Misfit = Unsolved.Misfit

abbrev pub unsettled_as : Unsettled → Unsolved
unsettled_as Unsettled.Impossible = Unsolved.Impossible
unsettled_as Unsettled.Misfit = Unsolved.Misfit

-- how many gaps are lent of n: none where nothing is kept
unfoldable pub kept_places : (share n : ℕ) → ℕ
kept_places share n = cond (eqb share 0) 0 n

-- slices for as many records as times are lent, the places of the sends filled in
pub record Tables (share : ℕ) (store sends before gap latency : List ℕ) (times spare : List ℤ) : Type 0 where
  pub places : sends ≡ places_of (entries_in store (length times))
  pub few : length times < too_many
  pub room : length times ≤ capacity store
  pub all_before : length before ≡ length times
  pub all_gap : length gap ≡ kept_places share (length times)
  pub all_latency : length latency ≡ length times
  pub all_spare : length spare ≡ length times

-- the engine's answer, with what it leaves in the times, is the paper's
unfoldable pub settled_by : ℕ → List ℕ → List Entry → Result ℕ Unsettled → List ℤ → Type 0
settled_by share table es (Ok k) times = paper.settle (waits_of share table es) ≡ settled k times
settled_by share table es (Err Unsettled.Impossible) times = paper.settle (waits_of share table es) ≡ impossible
settled_by share table es (Err Unsettled.Misfit) times = ⊥
