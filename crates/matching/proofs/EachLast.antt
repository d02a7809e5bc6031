-- Of each of the sixty-four processors the place of its last entry that passes a test, kept in a table while the entries are gone over.
use Rattle.std.specs.Prelude.{Some, unwrap_or}
use Prim.Native.Nat.{ℕ, ◌+◌, ◌<◌}
use native.Mathlib.Omega.{arith}
use native.Mathlib.Numerals.{add-one}
use native.Mathlib.Decide.{ℕ_discrete}
use mathlib.Core.Path.{◌≡◌, refl, sym, ◌∙◌}
use mathlib.Core.Bool.{Bool, true, false, cond}
use mathlib.Core.List.{List}
use lib.ListN.{length, get_or, set, replicate, length-set, length-replicate, get_or-replicate}
use lib.Seq.{get_or-set_same, get_or-set_other}
use Rattle.paper.specs.Matching.{entry_at, last_of}
use Rattle.paper.specs.declared.Entry.{Entry}

-- of each processor the place of the last of the first i entries that passes its test, n where there is none
pub record EachLast (test : ℕ → Entry → Bool) (n : ℕ) (es : List Entry) (i : ℕ) (last : List ℕ) : Type 0 where
  pub size : length last ≡ 64
  pub each : (p : ℕ) → p < 64 → get_or last p 0 ≡ unwrap_or (last_of (test p) es i) n

module _ (test : ℕ → Entry → Bool) (n : ℕ) (es : List Entry) where
  pub each_none : EachLast test n es 0 (replicate 64 n)
  unfolding last_of
  each_none = record { size = length-replicate 64 n; each = λ p p<. get_or-replicate 64 p n 0 p< }

  -- an entry passes the test of its own processor alone
  module _ (own : (q : ℕ) (e : Entry) → ¬ (q ≡ e.body.processor) → test q e ≡ false) where
    pub each_more : {i : ℕ} {last : List ℕ} → EachLast test n es i last → {p : ℕ} → p ≡ (entry_at es i).body.processor → p < 64
        → (k : ℕ) → k ≡ cond (test p (entry_at es i)) i (get_or last p 0) → EachLast test n es (i + 1) (set last p k)
    unfolding last_of
    each_more {i} {last} h {p} here low k is =
        record { size = simp length-set h.size; each = λ q q<. rw (add-one i) (go q q< (ℕ_discrete q p)) }
      where
        at_its_own : (t : Bool) → cond t i (get_or last p 0) ≡ unwrap_or (cond t (Some i) (last_of (test p) es i)) n
        at_its_own true = refl
        at_its_own false = h.each p low

        go : (q : ℕ) → q < 64 → Dec (q ≡ p) → get_or (set last p k) q 0 ≡ unwrap_or (cond (test q (entry_at es i)) (Some i) (last_of (test q) es i)) n
        go q q< (yes z) =
            rw z (get_or-set_same last p k 0 (omega (arith, h.size)) ∙ is ∙ at_its_own (test p (entry_at es i)))
        go q q< (no z) =
            rw (own q (entry_at es i) (λ w. z (w ∙ sym here))) (get_or-set_other last p q k 0 z ∙ h.each q q<)
