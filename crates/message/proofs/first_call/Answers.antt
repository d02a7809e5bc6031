use Rattle.std.proofs.lemmas.Result.{err_from_is_err_and}
use mathlib.Core.Path.{refl, sym, ◌∙◌}
use Rattle.paper.specs.Matching.{matched_of}
use Rattle.matching.proofs.Calls.{matched_end}
use Rattle.store.proofs.Laws.{length_entries}
use Rattle.message.proofs.Calls.{stops, goes_on_lem}
use Rattle.message.proofs.first_call.Goals as goal

pub loop-i-init : goal.loop-i-init
unfolding matched_of
loop-i-init c = refl

pub returns-in_err-call_at : goal.returns-in_err-call_at
returns-in_err-call_at c =
    let (e, is, same) = err_from_is_err_and c.from_residual.result c.from_residual.ensures.1 in
    rw (is, same) (stops _ c.loop-i.i (rw length_entries c.loop-i-test.true) c.call_at.ensures c.in_err-call_at.was ∙ c.loop-i.invariant)

pub loop-i-preserved : goal.loop-i-preserved
loop-i-preserved c =
    goes_on_lem _ c.loop-i.i (rw length_entries c.loop-i-test.true) c.call_at.ensures c.in_ok-call_at.was ∙ c.loop-i.invariant

pub returns : goal.returns
returns c = sym (matched_end _ c.loop-i.i (rw length_entries c.loop-i-test.false)) ∙ c.loop-i.invariant
