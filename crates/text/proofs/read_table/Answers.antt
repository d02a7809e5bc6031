use Rattle.std.proofs.lemmas.Result.{err_from_is_err_and}
use Rattle.text.proofs.Whole.{bad_line, all_good}
use Rattle.text.proofs.read_table.Goals as goal

pub returns-in_err-read_lines : goal.returns-in_err-read_lines
returns-in_err-read_lines c =
    let p = err_from_is_err_and c.from_residual.result c.from_residual.ensures.1 in rw (p.1, p.2) (bad_line c.requires c.in_err-read_lines.ensures)

pub returns : goal.returns
returns c = all_good c.requires c.in_ok-read_lines.ensures c.first_open.ensures
