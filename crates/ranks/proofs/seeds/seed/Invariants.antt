-- The invariant: the first i records are sown.
use lib.ListN.{length}
use Rattle.ranks.specs.Inner.{Seeded}
use Rattle.ranks.proofs.seeds.seed.Given as goal

abbrev pub invariant-loop-i : goal.invariant-loop-i
invariant-loop-i l = Seeded (length l.initial.ranks) l.initial.ranks l.i l.ranks l.queue l.tail
