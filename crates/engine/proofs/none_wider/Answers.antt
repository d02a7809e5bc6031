use mathlib.Core.Path.{◌∙◌}
use lib.Dec.{leb}
use borrow.Author.Rules.{rules}
use Rattle.std.proofs.Common.{tests}
use Rattle.std.proofs.lemmas.Iterator.{YieldsList-from_slice}
use Rattle.std.proofs.lemmas.Iterator.Search.{all_from_yields_List}
use Rattle.engine.specs.Promise.{widest}
use Rattle.engine.proofs.Lengths.{all_narrow}
use Rattle.engine.proofs.none_wider.Goals as goal

pub returns : goal.returns
returns c = all_from_yields_List (λ x. leb x widest) _ _ _ c.all.ensures.ran (YieldsList-from_slice c.args.gap.now cc) (λ x b q k. search (rules, tests)) ∙ all_narrow c.args.gap.now
