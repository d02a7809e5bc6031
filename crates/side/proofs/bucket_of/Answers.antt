-- no sum is above 2 ^ 64.
use borrow.Author.Rules.{rules}
use Rattle.side.proofs.Keys.{bucket_is}
use Rattle.side.proofs.bucket_of.Goals as goal

pub returns : goal.returns
returns c = record {
  is = bucket_is c.args.key c.code.ensures (search rules);
  low = search rules;
}
