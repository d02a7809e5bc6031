-- Where the statement of `read_end` leaves an answer besides doubt, it leaves one.
use Rattle.std.specs.Prelude.{Some}
use Prim.Native.Nat.{ℕ}
use mathlib.Core.Path.{◌≡◌, sym, ap, ◌∙◌}
use mathlib.Core.List.{List}
use mathlib.Core.Bool.{Bool}
use Rattle.tail.specs.Ends.{EndsAt}

pub one_end : (s : List ℕ) (ended : Bool) (at k n m : ℕ) → EndsAt s ended at k (Some n) → EndsAt s ended at k (Some m) → Some n ≡ Some m
unfolding EndsAt
one_end s ended at k n m e f = ap Some (sym e.ends ∙ f.ends)
