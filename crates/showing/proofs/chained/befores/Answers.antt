use borrow.Author.Rules.{rules}
use lib.ListN.{take}
use Rattle.showing.proofs.Telling.{befores_first}
use Rattle.showing.proofs.chained.befores.Goals as goal

pub returns : goal.returns
returns c = befores_first _ (take c.args.n c.places-table.result) _ (search rules)
    c.requires c.befores_into.ensures
