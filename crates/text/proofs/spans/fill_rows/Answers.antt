use Rattle.text.proofs.Rows.{rows_none, row_on}
use Rattle.text.proofs.spans.fill_rows.Goals as goal

pub loop-s-init : goal.loop-s-init
loop-s-init c = rows_none _ _ _ _ _

pub loop-s-preserved : goal.loop-s-preserved
loop-s-preserved c = let l = c.loop-s in row_on l.s l.auto.s c.requires.4 l.invariant c.fill.ensures
