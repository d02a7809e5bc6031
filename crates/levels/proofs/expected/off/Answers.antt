use Rattle.levels.proofs.Processors.{no_record, no_mark, by_mark}
use Rattle.levels.proofs.expected.off.Goals as goal

pub returns-then-last-listed : goal.returns-then-last-listed
returns-then-last-listed c = no_record _ _ _ _ _ c.if-last-listed.true

pub returns-then-mark-listed : goal.returns-then-mark-listed
returns-then-mark-listed c = no_mark _ _ _ _ _ c.if-last-listed.false c.if-mark-listed.true

pub returns : goal.returns
returns c = by_mark _ _ _ _ _ c.if-last-listed.false c.if-mark-listed.false c.values_at.ensures c.expected.ensures
