use Rattle.std.proofs.Common.{◌+◌, ◌≡◌, drop}
use Rattle.octets.specs.Octets.{index_of}
use Rattle.octets.proofs.find.Given as goal

-- what is left to look at gives the same place
abbrev pub invariant-loop-i : goal.invariant-loop-i
invariant-loop-i l = l.at + index_of l.byte (drop l.at l.bytes) ≡ l.i + index_of l.byte (drop l.i l.bytes)
