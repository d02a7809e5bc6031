-- The loop of rounds: the slice in front holds round k, and none before it was repeated.
use Rattle.engine.specs.Promise.{waits_of}
use Rattle.engine.specs.Inner.{front}
use Rattle.engine.proofs.Going.{Going}
use Rattle.engine.proofs.rounds.Given as goal

abbrev pub invariant-loop-k : goal.invariant-loop-k
invariant-loop-k l = Going (waits_of l.initial.times l.waits.before.now l.waits.gap.now l.waits.send.now l.waits.latency.now) l.k (front l.first l.times l.spare)
