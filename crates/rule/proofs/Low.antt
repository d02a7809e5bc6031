-- What a line sets is a latency of at most 1,000,000.
use Rattle.std.specs.Prelude.{Option, Some, None, Ok}
use Prim.Native.Nat.{ℕ, ◌≤◌}
use mathlib.Core.Path.{◌≡◌, ap}
use mathlib.Core.List.{List, [], ◌∷◌}
use Rattle.paper.specs.Forms.{whole_of}
use Rattle.rule.specs.Words.{uncommented, trimmed, word, next}
use Rattle.rule.specs.Rule.{natural, alone, last_of, rule_of, three, on_three, on_words, meaning_of}
use Rattle.rule.specs.declared.Who.{Who}
use Rattle.rule.specs.declared.Rule.{Rule}
use Rattle.rule.proofs.Threes.{natural_low}

latency_set : (a b : Option Who) (o : Option ℕ) (rule : Rule) → rule_of a b o ≡ Some rule → o ≡ Some rule.latency
unfolding rule_of
latency_set None b o rule e = cc
latency_set (Some s) None o rule e = cc
latency_set (Some s) (Some r) None rule e = cc
latency_set (Some s) (Some r) (Some latency) rule e =
    let q : record { sender = s; receiver = r; latency = latency } ≡ rule = cc in ap (λ (x : Rule). Some x.latency) q

last_low : (l : List ℕ) (latency : ℕ) → last_of l ≡ Some latency → latency ≤ 1000000
unfolding last_of alone
last_low l latency e = go (next l) e
  where
    go : (rest : List ℕ) → alone rest (natural 1000000 (whole_of (word l))) ≡ Some latency → latency ≤ 1000000
    go [] e = natural_low 1000000 (whole_of (word l)) latency e
    go (b ∷ rest) e = cc

three_low : (l : List ℕ) (rule : Rule) → three l ≡ Some rule → rule.latency ≤ 1000000
unfolding three
three_low l rule e = last_low (next (next l)) rule.latency (latency_set _ _ _ rule e)

pub sets_low : (l : List ℕ) (rule : Rule) → meaning_of l ≡ Ok (Some rule) → rule.latency ≤ 1000000
unfolding meaning_of on_words on_three
sets_low l rule e = go (trimmed (uncommented l)) e
  where
    on_rule : (o : Option Rule) → on_three o ≡ Ok (Some rule) → o ≡ Some rule
    on_rule None e = cc
    on_rule (Some other) e = cc

    go : (w : List ℕ) → on_words w ≡ Ok (Some rule) → rule.latency ≤ 1000000
    go [] e = cc
    go (b ∷ w) e = three_low (b ∷ w) rule (on_rule _ e)
