use mathlib.Core.Path.{◌∙◌}
use lib.Dec.{leb}
use Rattle.std.proofs.Common.{rules, tests}
use Rattle.std.proofs.lemmas.Iterator.{YieldsList-from_slice}
use Rattle.std.proofs.lemmas.Iterator.Search.{all_from_yields_List}
use Rattle.clearance.proofs.Clearing.{all_low}
use Rattle.clearance.proofs.low_latencies.Goals as goal

pub returns : goal.returns
returns c =
    let l = c.args.latencies.now in
    all_from_yields_List (λ n. leb n 1000000) _ _ _ c.all.ensures.ran (YieldsList-from_slice l cc) (λ x b q k. search (rules, tests)) ∙ all_low l
