use mathlib.Core.Path.{sym, ◌∙◌}
use Rattle.std.proofs.lemmas.Result.{err_from_is_err_and}
use Rattle.both.proofs.Alone.{went_on, went_out, second_refused, one_shared, none_shared}
use Rattle.both.proofs.read_second.Goals as goal

pub returns-in_err-stopped : goal.returns-in_err-stopped
returns-in_err-stopped c =
    let left = err_from_is_err_and c.from_residual.result c.from_residual.ensures.1 in
    let out = went_out _ _ _ (sym c.stopped.ensures ∙ c.in_err-stopped.was) in
    rw (left.1, left.2, out.1) (second_refused c.read_alone-b.ensures _ _ _ _ out.0)

pub returns-then-shares : goal.returns-then-shares
returns-then-shares c =
    let ends = went_on _ _ (sym c.stopped.ensures ∙ c.in_ok-stopped.was) in
    one_shared c.read_alone-b.ensures _ _ ends c.shares.ensures c.if-shares.true c.nowhere.ensures

pub returns : goal.returns
returns c =
    let ends = went_on _ _ (sym c.stopped.ensures ∙ c.in_ok-stopped.was) in
    none_shared c.read_alone-b.ensures _ _ ends c.shares.ensures c.if-shares.false c.tally.ensures
