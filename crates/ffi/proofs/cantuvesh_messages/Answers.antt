use Rattle.std.proofs.Common.{refl, add-one, arith, length-set}
use Rattle.listing.specs.Plan.{laid}
use Rattle.ffi.proofs.cantuvesh_messages.Goals as goal

pub loop-k-init : goal.loop-k-init
unfolding laid
loop-k-init c = (omega arith, refl, refl, refl)

pub loop-k-preserved : goal.loop-k-preserved
unfolding laid
loop-k-preserved c =
    let l = c.loop-k.invariant in
    (omega arith, refl, rw (l.2, c.pair_of.ensures, add-one) refl, simp length-set l.3)
