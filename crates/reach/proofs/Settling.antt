-- The first places of the slices lent for the records that were read: they fit, so that there is an answer, and what it leaves in them
-- stands in front of the slices.
use Rattle.std.specs.Prelude.{Result}
use Prim.Native.Nat.{ℕ, ◌-◌, ◌≤◌}
use native.Mathlib.Nat.{sub-zero}
use native.Mathlib.Omega.{arith}
use mathlib.Core.Path.{◌≡◌, refl, ◌∙◌}
use mathlib.Core.List.{List, [], ◌∷◌, ◌++◌}
use mathlib.Core.Bool.{true}
use lib.ListN.{length, take}
use lib.Seq.{take_at, length-take-le}
use lib.IntN.{ℤ}
use borrow.Author.Tests.{lt-ltb, le-leb, eq-eqb}
use Rattle.paper.specs.Statistics.{summed}
use Rattle.store.specs.Layout.{too_many, capacity, entries_in}
use Rattle.engine.specs.Promise.{all_are}
use Rattle.solve.specs.Outcome.{fitting, Keepable, SolvedInto}
use Rattle.reach.specs.Lines.{Sized, as_reached, SettledBy}
use Rattle.solve.specs.declared.Unsolved.{Unsolved}
use Rattle.reach.specs.declared.Unreached.{Unreached}
use Rattle.answer.specs.declared.Counts.{Counts}

-- the first places of a slice of n
pub part_long : {A : Type 0} (l : List A) {n listed : ℕ} → length l ≡ n → listed ≤ n → length (take (listed - 0) l) ≡ listed
part_long l {n} {listed} e h = rw sub-zero (length-take-le listed l (omega arith))

abbrev pub first : {A : Type 0} → ℕ → List A → List A
first listed l = take (listed - 0) l

module _ (share : ℕ) (latencies store : List ℕ) (listed passed : ℕ) {n : ℕ} {sends before gap latency : List ℕ} {times spare : List ℤ}
    (sized : Sized n sends before gap latency times spare) (few : listed ≤ n) (room : listed ≤ capacity store) (r : Result (ℕ × ℕ × ℕ) Unsolved) (sends' : List ℕ) (times' : List ℤ)
    (into : SolvedInto
    (fitting (length (first listed times)) (capacity store)
    (length (first listed sends) ∷ length (first listed before) ∷ length (first listed gap) ∷ length (first listed latency) ∷ length (first listed spare) ∷ []))
    share latencies (entries_in store (length (first listed times))) r sends' times')
    (all_sends : length sends' ≡ length (first listed sends)) (all_times : length times' ≡ length (first listed times)) where
  many : length (first listed times) ≡ listed
  many = part_long times sized.all_times few

  all : length (first listed sends) ≡ listed
  all = part_long sends sized.all_sends few

  fits : fitting (length (first listed times)) (capacity store)
      (length (first listed sends) ∷ length (first listed before) ∷ length (first listed gap) ∷ length (first listed latency) ∷ length (first listed spare) ∷ []) ≡ true
  unfolding fitting all_are summed
  fits =
      rw (
        many,
        all,
        part_long before sized.all_before few,
        part_long gap sized.all_gap few,
        part_long latency sized.all_latency few,
        part_long spare sized.all_spare few,
        lt-ltb listed too_many (omega (arith, sized.few)),
        le-leb listed (capacity store) room,
        eq-eqb listed listed refl,
      )

  pub settled : Keepable share (entries_in store listed) → (more : List ℕ) (later : List ℤ) (x : Result Counts Unreached) → x ≡ as_reached listed passed r
      → SettledBy share latencies (entries_in store listed) listed passed x (sends' ++ more) (times' ++ later)
  settled keep more later x e =
      let solves = rw many at (into.answers fits (rw many keep)) in
      record {
        answer = r;
        is = e;
        solves = rw (take_at sends' more listed (all_sends ∙ all), take_at times' later listed (all_times ∙ many)) solves;
      }
