-- How many records are known: one more, where one becomes known; and not all, as long as one is not.
use Prim.Native.Nat.{ℕ, zero, suc, ◌≤◌, ◌<◌}
use native.Mathlib.Omega.{arith}
use native.Mathlib.Decide.{dec_lt}
use mathlib.Core.Path.{◌≡◌, refl, sym, ap, ◌∙◌}
use mathlib.Core.List.{List}
use borrow.Author.Tests.{lt-ltb, le-ltb}
use lib.ListN.{length, set}
use lib.Seq.{get_or-set_same, get_or-set_other}
use Rattle.ranks.specs.Ranked.{at}
use Rattle.ranks.specs.Inner.{known}

module _ (n : ℕ) where
  pub known_yes : (ranks : List ℕ) (i : ℕ) → at ranks i < n → known n ranks (suc i) ≡ suc (known n ranks i)
  unfolding known
  known_yes ranks i l = rw (lt-ltb (at ranks i) n l)

  pub known_no : (ranks : List ℕ) (i : ℕ) → n ≤ at ranks i → known n ranks (suc i) ≡ known n ranks i
  unfolding known
  known_no ranks i l = rw (le-ltb (at ranks i) n l)

  -- by whether record i is known
  known_step : (ranks : List ℕ) (i : ℕ) (P : ℕ → Type 0)
      → (at ranks i < n → P (suc (known n ranks i))) → (n ≤ at ranks i → P (known n ranks i)) → P (known n ranks (suc i))
  known_step ranks i P yes-there not_there = go (dec_lt (at ranks i) n)
    where
      go : Dec (at ranks i < n) → P (known n ranks (suc i))
      go (yes l) = rw (known_yes ranks i l) (yes-there l)
      go (no l) = rw (known_no ranks i (omega arith)) (not_there (omega arith))

  pub known_most : (ranks : List ℕ) (i : ℕ) → known n ranks i ≤ i
  unfolding known
  known_most ranks zero = omega arith
  known_most ranks (suc i) =
      let k = known_most ranks i in
      known_step ranks i (λ m. m ≤ suc i) (λ l. omega (arith, k)) (λ l. omega (arith, k))

  -- what stands behind the first i does not count
  pub known_same : (ranks ranks' : List ℕ) (i : ℕ) → ((k : ℕ) → k < i → at ranks' k ≡ at ranks k) → known n ranks' i ≡ known n ranks i
  unfolding known
  known_same ranks ranks' zero e = refl
  known_same ranks ranks' (suc i) e = rw (e i (omega arith), known_same ranks ranks' i (λ k l. e k (omega arith)))

  module _ (ranks : List ℕ) (k : ℕ) (unknown : n ≤ at ranks k) where
    pub known_less : (i : ℕ) → k < i → known n ranks i < i
    known_less zero l = absurd (omega arith)
    known_less (suc i) l = go (λ m. known_less i m) (dec_lt k i)
      where
        go : (k < i → known n ranks i < i) → Dec (k < i) → known n ranks (suc i) < suc i
        go earlier (no m) =
            let e : k ≡ i = omega arith in
            rw (known_no ranks i (rw (← e) unknown)) (omega (arith, known_most ranks i))
        go earlier (yes m) =
            let less = earlier m in
            known_step ranks i (λ m. m < suc i) (λ there. omega (arith, less)) (λ there. omega (arith, less))

    pub known_set : (v : ℕ) → v < n → k < length ranks → (i : ℕ) → k < i → known n (set ranks k v) i ≡ suc (known n ranks i)
    known_set v v< k< zero l = absurd (omega arith)
    known_set v v< k< (suc i) l = go (λ m. known_set v v< k< i m) (dec_lt k i)
      where
        same_at : (m : ℕ) → ¬ (m ≡ k) → at (set ranks k v) m ≡ at ranks m
        same_at m other = get_or-set_other ranks k m v 0 other

        go : (k < i → known n (set ranks k v) i ≡ suc (known n ranks i)) → Dec (k < i) → known n (set ranks k v) (suc i) ≡ suc (known n ranks (suc i))
        go earlier (no q) =
            let e : k ≡ i = omega arith in
            let here : at (set ranks k v) i ≡ v = rw (← e) (get_or-set_same ranks k v 0 k<) in
            known_yes (set ranks k v) i (rw here v<)
            ∙ ap suc (known_same ranks (set ranks k v) i (λ m m<. same_at m (λ q. omega arith)))
            ∙ ap suc (sym (known_no ranks i (rw (← e) unknown)))
        go earlier (yes q) =
            let there = same_at i (λ z. omega arith) in
            let more = earlier q in
            known_step ranks i (λ m. known n (set ranks k v) (suc i) ≡ suc m)
            (λ l. known_yes (set ranks k v) i (rw there l) ∙ ap suc more)
            (λ l. known_no (set ranks k v) i (rw there l) ∙ more)
