-- The statement of `answered` leaves one answer, and one thing that the lent times hold.
use Rattle.std.specs.Prelude.{Result, ℕ}
use mathlib.Core.Path.{◌≡◌, sym, ◌∙◌}
use mathlib.Core.List.{List}
use lib.IntN.{ℤ}
use Rattle.paper.specs.declared.Answer.{Answer}
use Rattle.answer.specs.declared.Counts.{Counts}
use Rattle.ending.specs.Ending.{EndedBy}
use Rattle.writing.specs.declared.Unwritten.{Unwritten}

pub one_ending : (counts : Counts) (done : Result ℕ Unwritten) (new times : List ℤ) {r q : Answer} {t s : List ℤ}
    → EndedBy counts done new times r t
    → EndedBy counts done new times q s
    → (r ≡ q) × (t ≡ s)
one_ending counts done new times a b = (a.answer ∙ sym b.answer, a.keeps ∙ sym b.keeps)
