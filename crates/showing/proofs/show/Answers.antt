use borrow.Author.Rules.{rules}
use Rattle.showing.proofs.Speaking.{wide}
use Rattle.showing.proofs.show.Goals as goal

pub of_trace-requires : goal.of_trace-requires
of_trace-requires c = wide c.args.room.now (search rules)
