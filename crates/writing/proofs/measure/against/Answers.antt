-- What is kept fits, and then what is gained.
use native.Mathlib.Omega.{arith}
use Rattle.std.proofs.Common.{◌<◌, ◌+◌}
use Rattle.writing.proofs.Outcomes.{fits_not, fits}
use Rattle.writing.proofs.measure.against.Goals as goal
use Rattle.writing.proofs.measure.against.Goals.{then-most-kept-via-then-most-kept, then-most-kept-via-else-most-kept+then-most-kept-2}

pub returns-then-most-kept : goal.returns-then-most-kept
returns-then-most-kept c =
    let short : c.args.most < c.args.kept + c.args.gained =
    elim c.then-most-kept.branch [ then-most-kept-via-then-most-kept w ↦ omega arith | then-most-kept-via-else-most-kept+then-most-kept-2 w ↦ omega arith ]
    in
    fits_not short

pub returns : goal.returns
returns c = fits (omega arith)
