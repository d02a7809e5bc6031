-- The records of a trace wait for records of the trace only.
use Rattle.std.specs.Prelude.{Some}
use Prim.Native.Nat.{ℕ, ◌<◌}
use native.Mathlib.Omega.{arith}
use mathlib.Core.Path.{◌≡◌}
use mathlib.Core.List.{List}
use lib.ListN.{length}
use Rattle.paper.specs.Matching.{last_on, send_of, waits_of}
use Rattle.paper.specs.declared.Entry.{Entry}
use Rattle.matching.proofs.Before.{last_on_lem}
use Rattle.matching.proofs.Belong.{belongs}
use Rattle.rounds.specs.Meaning.{on_before, on_send, Closed}

module _ (es : List Entry) where
  pub before_within : (processor i j : ℕ) → i < length es → last_on es processor i ≡ Some j → j < length es
  before_within processor i j i< e = omega (arith, (last_on_lem es processor i j e).before)

  pub send_within : (i j : ℕ) → send_of es i ≡ Some j → j < length es
  send_within i j e = (belongs es i j e).within

  pub closed_waits : (share : ℕ) (table : List ℕ) → Closed (waits_of share table es)
  unfolding waits_of
  closed_waits share table i j v i< (on_before e) = before_within _ i j i< e
  closed_waits share table i j v i< (on_send e) = send_within i j e
