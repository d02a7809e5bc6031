use Rattle.quick.specs.Stamps.{six_of}
use borrow.Author.Rules.{rules}
use Rattle.quick.proofs.stamp.six.Goals as goal

pub returns : goal.returns
unfolding six_of
returns c = search rules
