-- What the code's places in a line mean.
use Rattle.std.specs.Prelude.{ℕ, ◌-◌, ◌≤◌, ◌≡◌, List, length, take, drop}
use Rattle.rule.specs.Words.{trimmed, word, behind, next}
use Rattle.rule.specs.Rule.{who_of}
use Rattle.rule.specs.declared.three.Named.{Named}

pub record Starts (line : List ℕ) (at start : ℕ) : Type 0 where
  pub is : drop start line ≡ trimmed (drop at line)
  pub within : start ≤ length line

pub record Ends (line : List ℕ) (at end : ℕ) : Type 0 where
  pub is : take (end - at) (drop at line) ≡ word (drop at line)
  pub rest : drop end line ≡ behind (drop at line)
  pub from : at ≤ end
  pub within : end ≤ length line

pub record Names (line : List ℕ) (at : ℕ) (named : Named) : Type 0 where
  pub is : named.who ≡ who_of (word (drop at line))
  pub rest : drop named.next line ≡ next (drop at line)
  pub within : named.next ≤ length line
