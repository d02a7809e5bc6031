-- The lent times behind an answer: the new ones over the first of them, where it is acceptance.
use Rattle.std.specs.Prelude.{Result, Err}
use Prim.Native.Nat.{ℕ, ◌≤◌, ◌<◌}
use mathlib.Core.Path.{◌≡◌, refl, ◌∙◌}
use mathlib.Core.List.{List, ◌++◌}
use lib.ListN.{length, drop}
use lib.IntN.{ℤ}
use borrow.Author.Tests.{eq-eqb, ne_eqb, le-leb, lt-leb}
use Rattle.paper.specs.declared.Answer.{Answer}
use Rattle.paper.specs.Columns.{nowhere}
use Rattle.paper.specs.declared.Fault.TheVariants as Fault
use Rattle.answer.specs.Answers.{refusal}
use Rattle.answer.specs.declared.Counts.{Counts}
use Rattle.ending.specs.Ending.{answer_for, placed, times_after, EndedBy}
use Rattle.writing.specs.declared.Unwritten.{Unwritten}

-- whatever the room was left for, it is 16
pub unwritten : (counts : Counts) (why : Unwritten) → answer_for counts (Err why) ≡ refusal Fault.NoRoom nowhere
unfolding answer_for
unwritten counts Unwritten.NoRoom = refl
unwritten counts Unwritten.Unfit = refl

-- ---- the lent times behind an answer

module _ (number : ℕ) (new times : List ℤ) where
  -- a refusal leaves them
  pub kept : (number ≡ 0 → ⊥) → times ≡ times_after number new times
  unfolding times_after
  kept h = rw (ne_eqb number 0 h)

  module _ (accepted : number ≡ 0) where
    pub copied_in : length new ≤ length times → {t : List ℤ} → t ≡ new ++ drop (length new) times → t ≡ times_after number new times
    unfolding times_after placed
    copied_in h e = e ∙ rw (eq-eqb number 0 accepted, le-leb (length new) (length times) h)

    pub unplaced : length times < length new → times ≡ times_after number new times
    unfolding times_after placed
    unplaced h = rw (eq-eqb number 0 accepted, lt-leb (length new) (length times) h)

pub ended : {counts : Counts} {done : Result ℕ Unwritten} (new times : List ℤ) {a : Answer} {t : List ℤ} → a ≡ answer_for counts done
    → t ≡ times_after a.number new times
    → EndedBy counts done new times a t
ended new times e h = record { answer = e; keeps = rw e at h }
