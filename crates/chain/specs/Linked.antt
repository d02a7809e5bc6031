-- The steps of chains as tables: of each of n records the place that the processor's step leads to, and the send's, where that is below n.
use Rattle.std.specs.Prelude.{ℕ, ◌<◌, ◌≡◌, true, ◌↔◌, List, length}
use Rattle.paper.specs.Chain.{Steps}
use Rattle.engine.specs.Promise.{place}
use Rattle.ranks.specs.Ranked.{at}

-- chains end at the records that have a 0
pub record Linked (s : Steps) (n : ℕ) (first second ends : List ℕ) : Type 0 where
  pub all_first : length first ≡ n
  pub all_second : length second ≡ n
  pub all_ends : length ends ≡ n
  pub end : (i : ℕ) → i < n → (s.ends i ≡ true) ↔ (at ends i ≡ 0)
  pub processor : (i : ℕ) → i < n → s.processor i ≡ place n (at first i)
  pub send : (i : ℕ) → i < n → s.send i ≡ place n (at second i)
