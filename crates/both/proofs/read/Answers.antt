use mathlib.Core.Path.{sym, ◌∙◌}
use Rattle.std.proofs.lemmas.Result.{err_from_is_err_and}
use Rattle.both.proofs.Alone.{made, went_on, went_out, first_refused, behind_first}
use Rattle.both.proofs.read.Goals as goal

pub read_alone-a-requires : goal.read_alone-a-requires
read_alone-a-requires c = made c.empty-store.ensures

pub read_second-requires : goal.read_second-requires
read_second-requires c = c.read_alone-a.ensures.same ∙ made c.empty-store.ensures

pub returns-in_err-stopped : goal.returns-in_err-stopped
returns-in_err-stopped c =
    let left = err_from_is_err_and c.from_residual.result c.from_residual.ensures.1 in
    let out = went_out _ _ _ (sym c.stopped.ensures ∙ c.in_err-stopped.was) in
    rw (left.1, left.2, out.1) (first_refused _ _ c.read_alone-a.ensures _ _ out.0)

pub returns : goal.returns
returns c =
    let ends = went_on _ _ (sym c.stopped.ensures ∙ c.in_ok-stopped.was) in
    behind_first _ _ c.read_alone-a.ensures ends c.held-held.ensures c.tally.ensures c.read_second.ensures
