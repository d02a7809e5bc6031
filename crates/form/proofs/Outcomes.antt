-- The statements leave one answer.
use Rattle.std.specs.Prelude.{Option, ℤ}
use Prim.Native.Nat.{ℕ}
use mathlib.Core.Path.{◌≡◌, sym, ◌∙◌}
use mathlib.Core.List.{List}
use Rattle.paper.specs.Forms.{whole_of, time_of}

pub one_whole_read : (s : List ℕ) (r q : Option ℤ) → r ≡ whole_of s → q ≡ whole_of s → r ≡ q
one_whole_read s r q e f = e ∙ sym f

pub one_time_read : (s : List ℕ) (r q : Option ℤ) → r ≡ time_of s → q ≡ time_of s → r ≡ q
one_time_read s r q e f = e ∙ sym f
