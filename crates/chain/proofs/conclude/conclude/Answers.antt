use Rattle.chain.proofs.Concluding.{within, found_cut, concluded_refused, concluded_never, concluded_outside, concluded_inside}
use Rattle.chain.proofs.conclude.conclude.Goals as goal

pub returns-then-n-place : goal.returns-then-n-place
returns-then-n-place c = concluded_outside _ _ _ _ _ _ _ c.in-Ok.is c.if-n-place.true c.nowhere.ensures
    c.unfilled.ensures

pub slice_bounds-records-end : goal.slice_bounds-records-end
slice_bounds-records-end c = (within c.requires c.in-Ok.is).with_times

pub slice_bounds-explain-end : goal.slice_bounds-explain-end
slice_bounds-explain-end c = (within c.requires c.in-Ok.is).with_sends

pub explain-requires : goal.explain-requires
explain-requires c = let c₅ = c in
    found_cut _ _ (within c₅.requires c₅.in-Ok.is) c.if-n-place.false

pub returns-else-n-place : goal.returns-else-n-place
returns-else-n-place c = let c₁₀ = c in
    let is = c₁₀.in-Ok.is in
    let enough = within c₁₀.requires is in
    concluded_inside _ _ _ _ _ _ _ is c.if-n-place.false
    c.explain.ensures
    enough.with_times

pub returns-in-Err-Refused : goal.returns-in-Err-Refused
returns-in-Err-Refused c = concluded_refused _ _ _ _ _ _ _ c.in-Err-Refused.is (rw c.in-Err-Refused.is at c.in-Err-Refused.field-0-is) c.unfilled-in-Err-Refused.ensures

pub returns-in-Err-Misfit : goal.returns-in-Err-Misfit
returns-in-Err-Misfit c = concluded_never _ _ _ _ _ _ _ c.in-Err-Misfit.is (rw c.in-Err-Misfit.is at c.in-Err-Misfit.field-0-is)
