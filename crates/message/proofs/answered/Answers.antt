-- From the contracts of its calls.
use Rattle.std.proofs.lemmas.Result.{err_from_is_err_and}
use Rattle.message.proofs.Outcomes.{refuses, matches}
use Rattle.message.proofs.answered.Goals as goal

pub returns-in_err-first_call : goal.returns-in_err-first_call
returns-in_err-first_call c =
    let (e, is, same) = err_from_is_err_and c.from_residual.result c.from_residual.ensures.1 in
    rw (is, same) (refuses _ c.first_call.ensures c.in_err-first_call.was)

pub returns : goal.returns
returns c = matches _ c.first_call.ensures c.in_ok-first_call.was c.counted-counts.ensures
