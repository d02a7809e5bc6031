-- The latency of a stored record goes by what it is among the messages.
use Prim.Native.Nat.{ℕ, ◌+◌, ◌*◌, ◌<◌}
use native.Mathlib.Omega.{arith}
use mathlib.Core.Path.{◌≡◌}
use mathlib.Core.List.{List}
use lib.ListN.{get_or}
use Rattle.paper.specs.Matching.{latency_for}
use Rattle.paper.specs.declared.Message.{Message}
use Rattle.paper.specs.declared.Role.{Role}
use Rattle.paper.specs.declared.Role.TheVariants.{Neither, Send, Receive}
use Rattle.store.specs.Layout.{entry_from, On}
use Rattle.store.proofs.Peers.{peer_low}
use Rattle.waits.specs.Tables.{latency_of}

-- the place of a receive's latency
pub place_low : (l : List ℕ) (i : ℕ) {role : Role} → role ≡ (entry_from l i).body.role → {m : Message} → role ≡ Receive m
    → {p : ℕ} → On (entry_from l i) p → 64 * m.peer + p < 4096
place_low l i same {m} is {p} on = omega (arith, on.low, peer_low m l i (rw same at is))

module _ (table l : List ℕ) (i : ℕ) {role : Role} (same : role ≡ (entry_from l i).body.role) where
  pub latency_neither : role ≡ Neither → 0 ≡ latency_of table (entry_from l i)
  unfolding latency_for
  latency_neither is = rw (← same, is)

  pub latency_send : {m : Message} → role ≡ Send m → 0 ≡ latency_of table (entry_from l i)
  unfolding latency_for
  latency_send is = rw (← same, is)

  pub latency_receive : {m : Message} → role ≡ Receive m → {p : ℕ} → On (entry_from l i) p → get_or table (64 * m.peer + p) 0 ≡ latency_of table (entry_from l i)
  unfolding latency_for
  latency_receive is on = rw (← same, is, on.is)
