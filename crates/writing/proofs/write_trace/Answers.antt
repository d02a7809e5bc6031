-- Written where the answer is a length; else the room is as it was.
use mathlib.Core.Path.{sym, ◌∙◌}
use Rattle.std.proofs.lemmas.Result.{err_from_is_err_and}
use Rattle.writing.proofs.Outcomes.{tells, held, left}
use Rattle.writing.proofs.write_trace.Goals as goal

pub fill-requires : goal.fill-requires
fill-requires c = held (tells _ c.args.room.now) (sym c.measure.ensures ∙ c.in_ok-n.was)

pub returns-in_err-n : goal.returns-in_err-n
returns-in_err-n c =
    let p = err_from_is_err_and c.from_residual.result c.from_residual.ensures.1 in
    rw (p.1, p.2) (left c.measure.ensures c.in_err-n.was)
