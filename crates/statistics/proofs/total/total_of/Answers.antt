-- The last record under the key has the totals, and where there is none they are 0.
use Rattle.std.proofs.Common.{refl, ap, rules}
use Rattle.signed.specs.Codes.{code_of}
use Rattle.chains.specs.Chains.{behind}
use Rattle.statistics.proofs.Tallied.{none_found, all_found}
use Rattle.statistics.proofs.total.total_of.Goals as goal

pub returns-in_default : goal.returns-in_default
returns-in_default c = none_found c.requires _ c.bucket_of-b.ensures.is _ c.last_under.ensures (ap behind c.in_default.is)

pub returns : goal.returns
returns c =
    all_found c.requires _ c.bucket_of-b.ensures.is _ c.in-Some.ensures refl
    (rw c.code.ensures (ap code_of (search rules)))
    (rw c.code-2.ensures (ap code_of (search rules)))
