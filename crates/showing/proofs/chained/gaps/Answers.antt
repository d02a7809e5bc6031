use borrow.Author.Rules.{rules}
use lib.ListN.{take}
use Rattle.showing.proofs.Telling.{gaps_first}
use Rattle.showing.proofs.chained.gaps.Goals as goal

pub returns : goal.returns
returns c = gaps_first _ (take c.args.n c.zeros-table.result) _
    (search rules) _ _ c.gaps_into.ensures
