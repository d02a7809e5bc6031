-- "Raising latencies from one valid table to another never makes a time earlier and never turns "impossible" into an answer."
use Prim.Native.Nat.{ℕ, ◌≤◌, ◌<◌}
use native.Mathlib.Omega.{arith}
use native.Mathlib.Decide.{dec_lt}
use mathlib.Core.Path.{◌≡◌, refl, ◌∙◌}
use lib.ListN.{length, get_or, get_or-eq_default}
use lib.Signed.{◌≤ℤ◌}
use Rattle.paper.specs.Answer.{Inputs, given}
use Rattle.demands.specs.Steps.{Accepted}
use Rattle.demands.specs.Parts.{number, listed, time}
use Rattle.demands.specs.Demand3.{Raised}
use Rattle.demands.proofs.Tests.{same_most}
use Rattle.demands.proofs.OneTrace as calls

module _ (i j : Inputs) (raised : Raised i j) where
  one : calls.OneTrace i j
  one = record { trace = raised.trace; asked = rw raised.asked refl }

  same_share : i.asked.share ≤ j.asked.share
  same_share = rw raised.asked (omega arith)

  -- outside the tables there is nothing to raise
  higher : (k : ℕ) → get_or i.latencies k 0 ≤ get_or j.latencies k 0
  higher k = go (dec_lt k 4096)
    where
      go : Dec (k < 4096) → get_or i.latencies k 0 ≤ get_or j.latencies k 0
      go (yes l) = raised.higher k l
      go (no l) = rw (get_or-eq_default i.latencies 0 {n = k} (omega (arith, raised.from.size))) (omega arith)

  pub stays_impossible : number i ≡ 15 → length j.times ≡ length i.times → number j ≡ 15
  stays_impossible e places =
      calls.stays_impossible i j one same_share higher places
      (λ (size, lent, low). (raised.to.size, places ∙ lent ∙ same_most (given i) (given j) (rw places), rw raised.asked low))
      (λ low. raised.to.low) e

  pub none_earlier : (a : Accepted i) (b : Accepted j) → (k : ℕ) → k < listed i → time i k ≤ℤ time j k
  none_earlier = calls.none_earlier i j one same_share higher
