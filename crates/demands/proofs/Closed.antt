-- The records of a trace wait for records of it only.
use Prim.Native.Nat.{ℕ}
use native.Mathlib.Omega.{arith}
use mathlib.Core.List.{List}
use Rattle.paper.specs.Matching.{waits_of}
use Rattle.paper.specs.declared.Entry.{Entry}
use Rattle.matching.proofs.Belong.{processor_at, belongs}
use Rattle.matching.proofs.Before.{last_on_lem}
use Rattle.rounds.specs.Meaning.{on_before, on_send, Closed}

pub waits_closed : (share : ℕ) (table : List ℕ) (es : List Entry) → Closed (waits_of share table es)
unfolding waits_of
waits_closed share table es i j v l (on_before e) = omega (arith, (last_on_lem es (processor_at es i) i j e).before)
waits_closed share table es i j v l (on_send e) = (belongs es i j e).within
