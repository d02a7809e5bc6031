use mathlib.Core.Path.{sym}
use lib.Seq.{length-take-le}
use Rattle.judge.proofs.Concluding.{within, concluded_times, concluded_refused, concluded_never}
use Rattle.judge.proofs.conclude.conclude.Goals as goal

pub slice_bounds-new-end : goal.slice_bounds-new-end
slice_bounds-new-end c = sym (length-take-le _ _ (within _ c.requires _ c.in-Ok.is))

pub returns-in-Ok : goal.returns-in-Ok
returns-in-Ok c = concluded_times _ _ _ _ _ _ _ _ c.in-Ok.is c.finish.ensures

pub returns-in-Err-Refused : goal.returns-in-Err-Refused
returns-in-Err-Refused c = concluded_refused _ _ _ _ _ _ _ c.in-Err-Refused.is (rw c.in-Err-Refused.is at c.in-Err-Refused.field-0-is) c.refused.ensures

pub returns-in-Err-Misfit : goal.returns-in-Err-Misfit
returns-in-Err-Misfit c = concluded_never _ _ _ _ _ _ _ c.in-Err-Misfit.is (rw c.in-Err-Misfit.is at c.in-Err-Misfit.field-0-is)
