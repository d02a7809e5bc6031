-- From what is gained and lost.
use mathlib.Core.Path.{sym, ◌∙◌}
use Rattle.std.proofs.lemmas.Result.{err_from_is_err_and}
use Rattle.writing.proofs.Outcomes.{unfit_answer, fit_answer}
use Rattle.writing.proofs.measure.measure.Goals as goal

pub returns-in_err-gained : goal.returns-in_err-gained
returns-in_err-gained c =
    let p = err_from_is_err_and c.from_residual.result c.from_residual.ensures.1 in
    rw (p.1, p.2) (unfit_answer c.sum.ensures (sym c.ok_or.ensures.value ∙ c.in_err-gained.was) _)

pub returns : goal.returns
returns c = c.against.ensures ∙ fit_answer c.sum.ensures (sym c.ok_or.ensures.value ∙ c.in_ok-gained.was) _
