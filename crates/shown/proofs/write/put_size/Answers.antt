-- The three stores are `size_shown`.
use Rattle.shown.proofs.Stores.{size_put}
use Rattle.shown.proofs.write.put_size.Goals as goal

pub returns : goal.returns
returns c = size_put _ _ _ c.args.at _ c.args.size c.requires.0 c.put_digits.ensures c.put_digits-2.ensures
