-- The number that a call gets back tells which row it is in, whether it is accepted and whether there is a column; a refusal touches
-- nothing.
use Prim.Native.Nat.{◌≤◌, ◌<◌}
use native.Mathlib.Omega.{arith}
use mathlib.Core.Path.{◌≡◌, refl, sym, ap, ◌∙◌}
use mathlib.Core.Logic.{◌⊎◌, inl, inr, ◌↔◌}
use Rattle.paper.specs.Numbers.{number_of}
use Rattle.paper.specs.Columns.{in_line}
use Rattle.paper.specs.Answer.{Inputs, Outcome, judge, refused, accepted}
use Rattle.paper.specs.declared.Fault.{Fault}
use Rattle.paper.specs.declared.Site.{Site}
use Rattle.demands.specs.Steps.{Accepted}
use Rattle.demands.specs.Table.{When}
use Rattle.demands.specs.Parts.{number, column, site}
use Rattle.demands.specs.Demand1.{Untouched}
use Rattle.demands.proofs.Numbers.{one_fault, some_number}
use Rattle.demands.proofs.Judged.{judge_accepted}
use Rattle.demands.proofs.Exactly.{answered, when_refused}
use Rattle.demands.proofs.ColumnRows.{Carries, below_5, row_carries}

module _ (i : Inputs) where
  accepted_number : Accepted i → number i ≡ 0
  unfolding accepted
  accepted_number a = ap (λ (o : Outcome). o.answer.number) (judge_accepted i a)

  accepted_column : Accepted i → column i ≡ 0
  unfolding accepted
  accepted_column a = ap (λ (o : Outcome). o.answer.column) (judge_accepted i a)

  module _ (fault : Fault) (s : Site) (when : When i fault s) where
    refused_number : number i ≡ number_of fault
    unfolding refused
    refused_number = ap (λ (o : Outcome). o.answer.number) (when_refused i fault s when)

    refused_site : site i ≡ s
    unfolding refused
    refused_site = ap (λ (o : Outcome). in_line o.answer.line o.answer.column) (when_refused i fault s when)

  pub accepted_exactly : (number i ≡ 0) ↔ Accepted i
  accepted_exactly = (λ e. go e (answered i), accepted_number)
    where
      go : number i ≡ 0 → Accepted i ⊎ ((fault : Fault) × (s : Site) × When i fault s) → Accepted i
      go e (inl a) = a
      go e (inr (fault, s, when)) = absurd (some_number fault (sym (refused_number fault s when) ∙ e))

  pub refused_exactly : (fault : Fault) (s : Site) → ((number i ≡ number_of fault) × (site i ≡ s)) ↔ When i fault s
  refused_exactly fault s = (λ (e, there). go e there (answered i), λ when. (refused_number fault s when, refused_site fault s when))
    where
      go : number i ≡ number_of fault → site i ≡ s → Accepted i ⊎ ((fault : Fault) × (s : Site) × When i fault s) → When i fault s
      go e there (inl a) = absurd (some_number fault (sym e ∙ accepted_number a))
      go e there (inr (f, t, when)) =
          let same_fault : f ≡ fault = one_fault f fault (sym (refused_number f t when) ∙ e) in
          let same_site : t ≡ s = sym (refused_site f t when) ∙ there in
          rw (same_fault, same_site) at when

  pub column_exactly : ((5 ≤ number i) × (number i ≤ 10)) ↔ (0 < column i)
  column_exactly = go (answered i)
    where
      go : Accepted i ⊎ ((fault : Fault) × (s : Site) × When i fault s) → Carries (number i) (column i)
      go (inl a) = below_5 (number i) (column i) (omega (arith, accepted_number a)) (accepted_column a)
      go (inr (fault, s, when)) =
          let its_column : column i ≡ s.column = ap (λ (t : Site). t.column) (refused_site fault s when) in
          rw (refused_number fault s when, its_column) (row_carries i s fault when)

  untouched : (fault : Fault) (s : Site) → Untouched i (refused i fault s)
  unfolding refused
  untouched fault s =
      record {
        verdict = refl;
        listed = refl;
        passed = refl;
        matched = refl;
        unreceived = refl;
        rounds = refl;
        written = refl;
        times = refl;
        room = refl;
      }

  pub refusal_keeps : ¬ (number i ≡ 0) → Untouched i (judge i)
  refusal_keeps h = go (answered i)
    where
      go : Accepted i ⊎ ((fault : Fault) × (s : Site) × When i fault s) → Untouched i (judge i)
      go (inl a) = absurd (h (accepted_number a))
      go (inr (fault, s, when)) = rw (when_refused i fault s when) (untouched fault s)
