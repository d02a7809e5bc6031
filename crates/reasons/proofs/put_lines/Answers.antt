use Prim.Native.Nat.{◌+◌, ◌-◌}
use native.Mathlib.Omega.{arith}
use lib.ListN.{length, length-drop, drop}
use lib.Seq.{take_all}
use Rattle.reasons.proofs.Going.{goes_on_lem, all_put}
use Rattle.reasons.proofs.put_lines.Goals as goal

pub loop-k-preserved : goal.loop-k-preserved
loop-k-preserved c = let chain = c.args.chain.now in
    let n = c.loop-k.k + 1 in
    goes_on_lem _ _ _ _ _ c.loop-k.invariant (omega arith) (rw (take_all (length chain - n) (drop n chain) (simp length-drop (omega arith))) at c.put_reason-at.ensures)

pub returns : goal.returns
returns c = all_put _ _ _ _ _ c.loop-k.invariant (omega arith)
