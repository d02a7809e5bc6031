-- The statement of `read_line` leaves one answer.
use Prim.Native.Nat.{ℕ}
use mathlib.Core.Path.{◌≡◌, sym, ◌∙◌}
use mathlib.Core.List.{List}
use Rattle.rule.specs.Rule.{Meaning, meaning_of}

pub one_meaning : (line : List ℕ) (r q : Meaning) → r ≡ meaning_of line → q ≡ meaning_of line → r ≡ q
one_meaning line r q e f = e ∙ sym f
