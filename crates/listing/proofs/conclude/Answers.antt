-- By how far the call came.
use Rattle.listing.proofs.Concluding.{within, concluded_times, concluded_refused, concluded_never}
use Rattle.listing.proofs.conclude.Goals as goal

pub slice_bounds-gather-end : goal.slice_bounds-gather-end
slice_bounds-gather-end c = within _ c.requires _ c.in-Ok.is

pub returns-in-Ok : goal.returns-in-Ok
returns-in-Ok c = concluded_times _ _ _ _ _ c.in-Ok.is c.gather-count.ensures c.filled_list.ensures

pub returns-in-Refused : goal.returns-in-Refused
returns-in-Refused c = concluded_refused _ _ _ _ c.in-Refused.refusal c.in-Err.is c.in-Refused.is c.unfilled.ensures

pub returns-in-Misfit : goal.returns-in-Misfit
returns-in-Misfit c = concluded_never _ _ _ _ c.in-Err.is c.in-Misfit.is _
