use Rattle.store.proofs.Laws.{length_entries}
use Rattle.waits.specs.Tables.{gaps_by}
use Rattle.waits.proofs.Filling.{fill_end}
use Rattle.waits.proofs.keep_share.Goals as goal

pub returns : goal.returns
unfolding gaps_by
returns c = rw (length_entries _ _) (fill_end _ _ c.loop-i.invariant c.loop-i-test.false)
