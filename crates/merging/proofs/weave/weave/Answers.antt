use Rattle.merging.proofs.Weaving.{line_first, line_second, going_more, going_less, still_fits, woven}
use mathlib.Core.Logic.{inl, inr}
use Rattle.merging.proofs.weave.weave.Goals as goal
use Rattle.merging.proofs.weave.weave.Goals.{then-loop-a-test+else-b-second, else-loop-a-test}

pub put_next-requires : goal.put_next-requires
put_next-requires c = let going = c.loop-a.invariant in
    let some_Is_first = c.loop-a-test.true in
    let some_second = c.if-b-second.true in
    let fits = c.requires.2 in
    ((line_first going some_Is_first some_second).within, (line_second going some_Is_first some_second).within, still_fits going fits)

pub loop-a-smaller : goal.loop-a-smaller
loop-a-smaller c = going_less c.loop-a.invariant c.loop-a-test.true c.if-b-second.true _ _ c.advanced-way.ensures

pub loop-a-preserved : goal.loop-a-preserved
loop-a-preserved c = let c = c in
    going_more c.loop-a.invariant c.loop-a-test.true c.if-b-second.true c.put_next.ensures c.advanced-way.ensures

pub returns : goal.returns
returns c =
    let (all, all', fits) = c.requires in
    elim c.loop-a-test.branch [
      | then-loop-a-test+else-b-second w ↦ woven c.loop-a.invariant all all' fits (inl w.if-b-second.false) (λ x. x) (λ x. x) c.put_rest.ensures
      | else-loop-a-test w ↦ woven c.loop-a.invariant all all' fits (inr w.loop-a-test.false) (λ x. x) (λ x. x) c.put_rest.ensures
    ]
