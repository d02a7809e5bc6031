-- The promise of `ranks_into` leaves one answer: the fewest steps are what they are.
use Prim.Native.Nat.{ℕ, zero, suc, ◌≤◌, ◌<◌}
use native.Mathlib.Omega.{arith}
use native.Mathlib.Decide.{dec_lt}
use mathlib.Core.Path.{◌≡◌, refl, sym, ◌∙◌}
use mathlib.Core.List.{List}
use lib.Seq.{ext_get_or}
use Rattle.ranks.specs.Ranked.{at, Ranked}

module _ (n : ℕ) (first second before : List ℕ) where
  -- no record has more steps in the one than in the other
  no_more : (ranks other : List ℕ) → Ranked n first second before ranks → Ranked n first second before other
      → (k i : ℕ) → i < n → at other i ≡ k → at ranks i ≤ k
  no_more ranks other r o zero i i< e = let none_left = (r.ends i i<).1 ((o.ends i i<).0 e) in omega (arith, none_left)
  no_more ranks other r o (suc k) i i< e = go (dec_lt (suc k) n) (λ j j< q. no_more ranks other r o k j j< q)
    where
      go : Dec (suc k < n) → ((j : ℕ) → j < n → at other j ≡ k → at ranks j ≤ k) → at ranks i ≤ suc k
      go (no l) earlier = omega (arith, r.most i i<)
      go (yes l) earlier =
          let c = o.caused i i< (omega arith) (λ z. omega arith) in
          let less = earlier c.on c.inside (omega (arith, c.less, e)) in
          omega (arith, less, r.fewest i c.on i< c.inside c.leads)

  pub one_ranks : (ranks other : List ℕ) → Ranked n first second before ranks → Ranked n first second before other → ranks ≡ other
  one_ranks ranks other r o =
      ext_get_or 0 ranks other (r.size ∙ sym o.size)
      (λ i i<.
      let i≤ : i < n = omega (arith, i<, r.size) in
      let below = no_more ranks other r o (at other i) i i≤ refl in
      let above = no_more other ranks o r (at ranks i) i i≤ refl in
      omega (arith, below, above))
