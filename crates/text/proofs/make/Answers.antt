use Rattle.std.proofs.Common.{rules}
use Rattle.std.proofs.lemmas.Result.{err_from_is_err_and}
use Rattle.text.proofs.Whole.{unmade_leaves, made_into}
use Rattle.text.proofs.make.Goals as goal

pub returns-in_err-read_table : goal.returns-in_err-read_table
returns-in_err-read_table c =
    let p = err_from_is_err_and c.from_residual.result c.from_residual.ensures.1 in rw (p.1, p.2) (unmade_leaves c.in_err-read_table.ensures)

pub returns : goal.returns
returns c = made_into c.in_ok-read_table.ensures (search rules) c.encode.ensures
