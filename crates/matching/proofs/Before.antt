-- "its predecessor on the same processor": the last of the records before it that is on its processor.
use Rattle.std.specs.Prelude.{Option, Some, None}
use Prim.Native.Nat.{ℕ, zero, suc, ◌≤◌, ◌<◌}
use native.Mathlib.Omega.{arith}
use native.Mathlib.Decide.{dec_lt}
use mathlib.Core.Path.{◌≡◌, refl, sym, ◌∙◌}
use mathlib.Core.List.{List}
use borrow.Author.Tests.{eqb-true, eqb-false, eq-eqb, ne_eqb}
use Rattle.paper.specs.Matching.{is_on, last_on}
use Rattle.paper.specs.declared.Entry.{Entry}
use Rattle.matching.proofs.Belong.{processor_at}
use Rattle.matching.proofs.Last.{last_of_lem, none_of, last_back}

-- j is the last before i that is on the processor
pub record LastOn (es : List Entry) (processor i j : ℕ) : Type 0 where
  pub before : j < i
  pub on : processor_at es j ≡ processor
  pub none_between : (k : ℕ) → j < k → k < i → processor_at es k ≡ processor → ⊥

module _ (es : List Entry) (processor : ℕ) where
  pub last_on_lem : (i j : ℕ) → last_on es processor i ≡ Some j → LastOn es processor i j
  last_on_lem i j h =
      let f = last_of_lem (is_on processor) es i j h in
      record { before = f.before; on = eqb-true _ _ f.passes; none_between = λ k a b. eqb-false _ _ (f.none_between k a b) }

  pub none_on : (i : ℕ) → last_on es processor i ≡ None → (k : ℕ) → k < i → processor_at es k ≡ processor → ⊥
  none_on i h k l = eqb-false _ _ (none_of (is_on processor) es i h k l)

  pub on_last : (i j : ℕ) → LastOn es processor i j → last_on es processor i ≡ Some j
  on_last i j f =
      last_back (is_on processor) es i j
      (record { before = f.before; passes = eq-eqb _ _ f.on; none_between = λ k a b. ne_eqb _ _ (f.none_between k a b) })

-- what holds from each of the first n records to the next one of its processor, and over a third if to it and from it, holds of any two of a
-- processor
module _ (es : List Entry) (n : ℕ) (P : ℕ → ℕ → Type 0) (over : (j m k : ℕ) → P j m → P m k → P j k)
    (next : (j k : ℕ) → k < n → LastOn es (processor_at es k) k j → P j k) where
  -- back from the later one, a record at a time, which is at most m
  back : (m j k : ℕ) → k ≤ m → j < k → k < n → processor_at es j ≡ processor_at es k → P j k
  back zero j k b l i e = absurd (omega arith)
  back (suc m) j k b l i e =
      go (λ p c d. back m j p (omega arith) c (omega arith)) (last_on es (processor_at es k) k) refl
    where
      step : ((p : ℕ) → j < p → p < k → processor_at es j ≡ processor_at es p → P j p) → (p : ℕ) → LastOn es (processor_at es k) k p
          → Dec (j < p) → P j k
      step earlier p f (yes c) = over j p k (earlier p c f.before (e ∙ sym f.on)) (next p k i f)
      step earlier p f (no c) =
          let between : ¬ (p < j) = λ d. f.none_between j d l e in
          let same : p ≡ j = omega arith in
          rw same at (next p k i f)

      go : ((p : ℕ) → j < p → p < k → processor_at es j ≡ processor_at es p → P j p) → (o : Option ℕ)
          → last_on es (processor_at es k) k ≡ o → P j k
      go earlier None q = absurd (none_on es (processor_at es k) k q j l e)
      go earlier (Some p) q = step earlier p (last_on_lem es (processor_at es k) k p q) (dec_lt j p)

  pub any_two : (j k : ℕ) → j < k → k < n → processor_at es j ≡ processor_at es k → P j k
  any_two j k = back k j k (omega arith)
