-- Sums of signed times beside sums of times that are counted from one below the least.
use Rattle.std.proofs.Common.{◌≡◌, ℕ, suc, ◌+◌, ◌-◌, ◌*◌, Bool, true, false, cond, ◌&&◌, ltb, leb, List, [], ◌∷◌, ℤ, pos, negsuc, ◌+ℤ◌, ◌-ℤ◌, neg_ℤ, nat_abs, sym, refl, ap, ◌∙◌, arith, ltb-false, le-leb, leb-false, leb-true}
use borrow.Author.Tests.{lt-leb}
use lib.IntN.{+ℤ_assoc, +ℤ_comm, +ℤ_idl, +ℤ_invl, neg_ℤ-neg_ℤ, neg_ℤ-+ℤ, pos-+ℤ-pos}
use Rattle.paper.specs.Matching.{count_if}
use Rattle.paper.specs.Statistics.{sum_if}
use Rattle.paper.specs.declared.Entry.{Entry}
use Rattle.reading.specs.Tidy.{InRange}
use Rattle.statistics.specs.Totals.{since_least, time_in}
use Rattle.statistics.proofs.Since.{since_is}
use Rattle.statistics.specs.Tells.{is_within}
use Rattle.statistics.proofs.Sums.{weigh, Each}

-- ---- four summands

swap : (a b c d : ℤ) → (a +ℤ b) +ℤ (c +ℤ d) ≡ (a +ℤ c) +ℤ (b +ℤ d)
swap a b c d =
    +ℤ_assoc a b (c +ℤ d)
    ∙ ap (λ (x : ℤ). a +ℤ x) (sym (+ℤ_assoc b c d) ∙ ap (λ (x : ℤ). x +ℤ d) (+ℤ_comm b c) ∙ +ℤ_assoc c b d)
    ∙ sym (+ℤ_assoc a c (b +ℤ d))

-- x less (x less e) is e
taken_back : (x e : ℤ) → neg_ℤ (x -ℤ e) +ℤ x ≡ e
taken_back x e =
    ap (λ (y : ℤ). y +ℤ x) (neg_ℤ-+ℤ x (neg_ℤ e) ∙ ap (λ (y : ℤ). neg_ℤ x +ℤ y) (neg_ℤ-neg_ℤ e) ∙ +ℤ_comm (neg_ℤ x) e)
    ∙ +ℤ_assoc e (neg_ℤ x) x
    ∙ ap (λ (y : ℤ). e +ℤ y) (+ℤ_invl x)
    ∙ +ℤ_comm e (pos 0)
    ∙ +ℤ_idl e

-- ---- a sum

-- each time of those that pass is as much larger
pub since_sum : (test : Entry → Bool) (es : List Entry) → Each (λ e. InRange e.body.time) es
    → sum_if test es +ℤ pos (1000000000000000 * count_if test es) ≡ pos (weigh time_in test es)
unfolding sum_if count_if weigh Each
since_sum test [] h = refl
since_sum test (e ∷ es) h = go (test e) (since_sum test es h.1)
  where
    t : ℤ
    t = e.body.time

    go : (b : Bool) → sum_if test es +ℤ pos (1000000000000000 * count_if test es) ≡ pos (weigh time_in test es)
        → cond b (t +ℤ sum_if test es) (sum_if test es) +ℤ pos (1000000000000000 * cond b (suc (count_if test es)) (count_if test es))
        ≡ pos (cond b (time_in e) 0 + weigh time_in test es)
    go true more =
        ap (λ (x : ℕ). (t +ℤ sum_if test es) +ℤ pos x) (split (count_if test es))
        ∙ ap (λ (x : ℤ). (t +ℤ sum_if test es) +ℤ x) (sym (pos-+ℤ-pos 1000000000000000 (1000000000000000 * count_if test es)))
        ∙ swap t (sum_if test es) (pos 1000000000000000) (pos (1000000000000000 * count_if test es))
        ∙ ap (λ (x : ℤ). x +ℤ (sum_if test es +ℤ pos (1000000000000000 * count_if test es))) (since_is t h.0)
        ∙ ap (λ (x : ℤ). pos (since_least t) +ℤ x) more
        ∙ pos-+ℤ-pos (since_least t) (weigh time_in test es)
      where
        split : (n : ℕ) → 1000000000000000 * suc n ≡ 1000000000000000 + 1000000000000000 * n
        split n = omega arith
    go false more = more ∙ ap pos (omega arith)

-- ---- how far apart

-- the distance from b to a, as a signed number d
module _ (far a b : ℕ) where
  within_plain : (d : ℕ) → d + b ≡ a → leb d far ≡ is_within far a b
  unfolding is_within
  within_plain d e = rw (le-leb b (a + far) (omega arith)) (go (leb d far) refl)
    where
      go : (t : Bool) → leb d far ≡ t → t ≡ (leb a (b + far) && true)
      go true h = rw (le-leb a (b + far) (omega (arith, leb-true d far h)))
      go false h = rw (lt-leb a (b + far) (omega (arith, leb-false d far h)))

  within_negative : (d : ℕ) → b ≡ a + suc d → leb (suc d) far ≡ is_within far a b
  unfolding is_within
  within_negative d e = rw (le-leb a (b + far) (omega arith)) (go (leb (suc d) far) refl)
    where
      go : (t : Bool) → leb (suc d) far ≡ t → t ≡ leb b (a + far)
      go true h = rw (le-leb b (a + far) (omega (arith, leb-true (suc d) far h)))
      go false h = rw (lt-leb b (a + far) (omega (arith, leb-false (suc d) far h)))

  pos_same : {m n : ℕ} → pos m ≡ pos n → m ≡ n
  pos_same e = ap nat_abs e

  pub within : (d : ℤ) → d +ℤ pos b ≡ pos a → leb (nat_abs d) far ≡ is_within far a b
  within (pos d) e = within_plain d (pos_same e)
  within (negsuc d) e = go (ltb b (suc d)) refl e
    where
      go : (t : Bool) → ltb b (suc d) ≡ t → cond t (negsuc (suc d - suc b)) (pos (b - suc d)) ≡ pos a → leb (suc d) far ≡ is_within far a b
      go true h f = absurd (let z : ◌≡◌ {A = ℕ} 0 1 = cc in omega arith)
      go false h f = within_negative d (omega (arith, pos_same f, ltb-false b (suc d) h))

-- what is told less what was spent, both sums counted from one below the least
pub apart : (told x e : ℤ) {v sx se : ℕ} (k : ℕ) → told +ℤ pos 1000000000000000 ≡ pos v → x +ℤ pos k ≡ pos sx → e +ℤ pos k ≡ pos se
    → (told -ℤ (x -ℤ e)) +ℤ pos (1000000000000000 + sx) ≡ pos (v + se)
apart told x e {v} {sx} {se} k p q r =
    ap (λ (y : ℤ). (told -ℤ (x -ℤ e)) +ℤ y) (sym (pos-+ℤ-pos 1000000000000000 sx) ∙ ap (λ (y : ℤ). pos 1000000000000000 +ℤ y) (sym q))
    ∙ swap told (neg_ℤ (x -ℤ e)) (pos 1000000000000000) (x +ℤ pos k)
    ∙ ap (λ (y : ℤ). (told +ℤ pos 1000000000000000) +ℤ y) (sym (+ℤ_assoc (neg_ℤ (x -ℤ e)) x (pos k)) ∙ ap (λ (y : ℤ). y +ℤ pos k) (taken_back x e) ∙ r)
    ∙ ap (λ (y : ℤ). y +ℤ pos se) p
    ∙ pos-+ℤ-pos v se
