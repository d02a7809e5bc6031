-- The time fits, so that it is written.
use mathlib.Core.Path.{◌∙◌}
use borrow.Author.Rules.{rules}
use Rattle.writing.proofs.Puts.{time_put_lem, run_put}
use Rattle.writing.proofs.put.put_run.Goals as goal

pub returns : goal.returns
returns c =
    let a = c.args in
    let e = time_put_lem a.room.now a.word.now a.at (search rules) c.requires.0 c.requires.1 c.put.ensures c.write_time.ensures in
    run_put a.room.now a.word.now a.at (search rules) c.requires.0 c.requires.1 c.put.ensures c.write_time.ensures (c.unwrap_or.ensures ∙ rw e)
