use borrow.Author.Rules.{rules}
use Rattle.std.proofs.Common.{tests}
use Rattle.std.proofs.lemmas.Iterator.{YieldsList-from_slice}
use Rattle.std.proofs.lemmas.Iterator.Search.{all_from_yields_List}
use lib.Signed.{le_z}
use Rattle.paper.specs.Clock.{limit}
use Rattle.engine.proofs.Tests.{told_all}
use Rattle.engine.proofs.all_low.Goals as goal

pub returns : goal.returns
returns c = rw (all_from_yields_List (λ z. le_z z limit) _ _ _ c.all.ensures.ran (YieldsList-from_slice c.args.times.now cc) (λ x b q k. search (rules, tests))) (told_all c.args.times.now)
