-- Two traces' waits compared.
use Rattle.std.specs.Prelude.{ℕ, ◌≤◌, ◌<◌, ◌≡◌}
use Rattle.paper.specs.Clock.{Waits}

-- the same records under larger latencies and gaps
pub record Slower (w v : Waits) : Type 0 where
  pub size : v.size ≡ w.size
  pub original : (i : ℕ) → i < w.size → v.original i ≡ w.original i
  pub before : (i : ℕ) → i < w.size → v.before i ≡ w.before i
  pub gap : (i : ℕ) → i < w.size → w.gap i ≤ v.gap i
  pub send : (i : ℕ) → i < w.size → v.send i ≡ w.send i
  pub latency : (i : ℕ) → i < w.size → w.latency i ≤ v.latency i

-- w is the first records of v
pub record First (w v : Waits) : Type 0 where
  pub size : w.size ≤ v.size
  pub original : (i : ℕ) → i < w.size → w.original i ≡ v.original i
  pub before : (i : ℕ) → i < w.size → w.before i ≡ v.before i
  pub gap : (i : ℕ) → i < w.size → w.gap i ≡ v.gap i
  pub send : (i : ℕ) → i < w.size → w.send i ≡ v.send i
  pub latency : (i : ℕ) → i < w.size → w.latency i ≡ v.latency i
