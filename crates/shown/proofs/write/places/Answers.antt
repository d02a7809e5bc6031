use mathlib.Core.Path.{◌≡◌, sym}
use native.Mathlib.Omega.{arith}
use Rattle.forms.proofs.Shown.{counted}
use Rattle.shown.proofs.write.places.Goals as goal

pub returns-then-n-power : goal.returns-then-n-power
returns-then-n-power c = let l = c.loop-k in sym (counted 8 _ l.k l.auto.k (omega arith) (omega arith) l.invariant.1)

pub returns : goal.returns
returns c =
    let nine : c.loop-k.k ≡ 9 = omega arith in
    sym (counted 8 _ 9 (omega arith) (omega arith) c.requires (rw nine at c.loop-k.invariant.1))
