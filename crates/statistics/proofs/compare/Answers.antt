-- Of slices that do not fit, and of records that no line gives, nothing is said.
use Rattle.statistics.proofs.Beyond.{tidy_held}
use Rattle.statistics.proofs.compare.Goals as goal

pub returns-then-any_beyond : goal.returns-then-any_beyond
returns-then-any_beyond c ready = absurd (c.any_beyond.ensures.fails c.if-any_beyond.true (λ k h. tidy_held _ (ready.holding.tidy k h)))
