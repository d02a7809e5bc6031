use borrow.Author.Rules.{rules}
use Rattle.showing.proofs.Speaking.{wide}
use Rattle.showing.proofs.say.Goals as goal

pub say_into-requires : goal.say_into-requires
say_into-requires c = wide c.args.room.now (search rules)
