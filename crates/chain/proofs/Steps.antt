-- The walk by the fewest steps of each record is the definition's chain: of those of at most so many records.
use Rattle.std.specs.Prelude.{Option, Some, None, option_map, unwrap_or}
use Prim.Native.Nat.{ℕ, zero, suc, ◌≤◌, ◌<◌}
use native.Mathlib.Omega.{arith}
use native.Mathlib.Decide.{dec_lt}
use mathlib.Core.Path.{◌≡◌, refl, sym, ap, ◌∙◌}
use mathlib.Core.Logic.{◌⊎◌, inl, inr, ⊎_elim}
use mathlib.Core.Bool.{Bool, true, false, cond, true≢false}
use mathlib.Core.List.{List, [], ◌∷◌}
use borrow.Author.Tests.{lt-ltb, le-ltb, eq-eqb, ne_eqb}
use lib.Dec.{ltb}
use Rattle.paper.specs.Chain.{Steps, fewer, onto, chain_in}
use Rattle.engine.specs.Promise.{place}
use Rattle.engine.proofs.Waiting.{place_at, place_none}
use Rattle.ranks.specs.Ranked.{at, Cause, Ranked}
use Rattle.walk.specs.Way.{rank_at, next, way, way_at}
use Rattle.walk.proofs.Ways.{way_length, rank_there, rank_past}
use Rattle.chain.specs.Linked.{Linked}

module _ (first second ranks : List ℕ) where
  abbrev rank : ℕ → ℕ
  rank = rank_at ranks

  -- the walk of at most m records
  walked : ℕ → ℕ → Option (List ℕ)
  walked m i = cond (ltb (rank i) m) (Some (way first second ranks (rank i) i)) None

  walked_some : (m i : ℕ) → rank i < m → walked m i ≡ Some (way first second ranks (rank i) i)
  unfolding walked
  walked_some m i l = rw (lt-ltb (rank i) m l)

  walked_none : (m i : ℕ) → m ≤ rank i → walked m i ≡ None
  unfolding walked
  walked_none m i l = rw (le-ltb (rank i) m l)

  -- by whether it has at most m
  by_most : (P : Option (List ℕ) → Type 0) (m i : ℕ) → (rank i < m → P (Some (way first second ranks (rank i) i))) → (m ≤ rank i → P None) → P (walked m i)
  by_most P m i short long = go (dec_lt (rank i) m)
    where
      go : Dec (rank i < m) → P (walked m i)
      go (yes l) = rw (walked_some m i l) (short l)
      go (no l) = rw (walked_none m i (omega arith)) (long (omega arith))

  -- a record of k + 1 steps, by those of the records that its two steps lead to: no fewer than k, and one of them k
  module _ (i m : ℕ) where
    abbrev a : ℕ
    a = at first i

    abbrev b : ℕ
    b = at second i

    first_walk : (k : ℕ) → k < m → rank a ≡ k → k ≤ rank b → fewer (walked m a) (walked m b) ≡ Some (way first second ranks k (next first second ranks k i))
    unfolding fewer next
    first_walk k k< is most =
        rw (walked_some m a (omega (arith, is)), is, eq-eqb k k refl)
        (by_most (λ d. fewer (Some (way first second ranks k a)) d ≡ Some (way first second ranks k a)) m b
        (λ l. rw (way_length first second ranks (rank b) b, way_length first second ranks k a, le-ltb (suc (rank b)) (suc k) (omega arith)))
        (λ l. refl))

    second_walk : (k : ℕ) → k < m → k < rank a → rank b ≡ k → fewer (walked m a) (walked m b) ≡ Some (way first second ranks k (next first second ranks k i))
    unfolding fewer next
    second_walk k k< more is =
        rw (walked_some m b (omega (arith, is)), is, ne_eqb (rank a) k (λ q. omega arith))
        (by_most (λ c. fewer c (Some (way first second ranks k b)) ≡ Some (way first second ranks k b)) m a
        (λ l. rw (way_length first second ranks (rank a) a, way_length first second ranks k b, lt-ltb (suc k) (suc (rank a)) (omega arith)))
        (λ l. refl))

    no_walk : m ≤ rank a → m ≤ rank b → fewer (walked m a) (walked m b) ≡ None
    unfolding fewer
    no_walk p q = rw (walked_none m a p, walked_none m b q)

    -- what its two steps lead to
    abbrev on : Option (List ℕ)
    on = option_map (λ (c : List ℕ). i ∷ c) (fewer (walked m a) (walked m b))

    record Known : Type 0 where
      steps : ¬ (rank i ≡ 0)
      near_first : rank i ≤ suc (rank a)
      near_second : rank i ≤ suc (rank b)
      cause : rank i ≤ m → (rank i ≡ suc (rank a)) ⊎ (rank i ≡ suc (rank b))

    goes_on_lem : Known → on ≡ walked (suc m) i
    unfolding way
    goes_on_lem h = by_rank (rank i) refl
      where
        choose : (k : ℕ) → rank i ≡ suc k → suc k ≤ m → (rank a ≡ k) ⊎ (rank b ≡ k)
            → fewer (walked m a) (walked m b) ≡ Some (way first second ranks k (next first second ranks k i))
        choose k is l (inl e) = first_walk k (omega arith) e (omega (arith, h.near_second, is))
        choose k is l (inr e) = go (dec_lt k (rank a))
          where
            go : Dec (k < rank a) → fewer (walked m a) (walked m b) ≡ Some (way first second ranks k (next first second ranks k i))
            go (yes more) = second_walk k (omega arith) more e
            go (no less) = first_walk k (omega arith) (omega (arith, h.near_first, is, less)) (omega (arith, e))

        by_rank : (r : ℕ) → rank i ≡ r → on ≡ walked (suc m) i
        by_rank zero is = absurd (h.steps is)
        by_rank (suc k) is = by_most' (dec_lt (rank i) (suc m))
          where
            by_most' : Dec (rank i < suc m) → on ≡ walked (suc m) i
            by_most' (yes l) =
                let found = choose k is (omega arith) (⊎_elim (λ e. inl (omega (arith, e, is))) (λ e. inr (omega (arith, e, is))) (h.cause (omega arith))) in
                rw (walked_some (suc m) i l, is, found)
            by_most' (no l) = rw (walked_none (suc m) i (omega arith), no_walk (omega (arith, h.near_first)) (omega (arith, h.near_second)))

-- ---- the definition

module _ (s : Steps) (n : ℕ) (first second ends ranks : List ℕ) (linked : Linked s n first second ends) (ranked : Ranked n first second ends ranks) where
  abbrev fewest : ℕ → ℕ
  fewest = rank_at ranks

  inside : (j : ℕ) → j < n → fewest j ≡ at ranks j
  inside j l = sym (rank_there ranks j (omega (arith, l, ranked.size)) refl)

  outside : (j : ℕ) → n ≤ j → fewest j ≡ n
  outside j l = sym (rank_past ranks j (omega (arith, l, ranked.size))) ∙ ranked.size

  -- by whether there is such a record
  places : (P : ℕ → Type 0) (j : ℕ) → (j < n → P (at ranks j)) → (n ≤ j → P n) → P (fewest j)
  places P j there past = go (dec_lt j n)
    where
      go : Dec (j < n) → P (fewest j)
      go (yes l) = rw (inside j l) (there l)
      go (no l) = rw (outside j (omega arith)) (past (omega arith))

  module _ (i : ℕ) (i< : i < n) where
    -- a record from which steps lead on
    known : (m : ℕ) → suc m ≤ n → s.ends i ≡ false → Known first second ranks i m
    known m m< moved =
        record {
          steps = λ z. true≢false (sym ((linked.end i i<).1 ((ranked.ends i i<).0 (sym (inside i i<) ∙ z))) ∙ moved);
          near_first =
              rw (inside i i<)
              (places (λ r. at ranks i ≤ suc r) (at first i) (λ l. ranked.fewest i (at first i) i< l (inl refl)) (λ l. omega (arith, ranked.most i i<)));
          near_second =
              rw (inside i i<)
              (places (λ r. at ranks i ≤ suc r) (at second i) (λ l. ranked.fewest i (at second i) i< l (inr refl)) (λ l. omega (arith, ranked.most i i<)));
          cause =
              λ l. by_cause
              (ranked.caused i i< (omega (arith, l, inside i i<))
              (λ z. true≢false (sym ((linked.end i i<).1 ((ranked.ends i i<).0 z)) ∙ moved)));
        }
      where
        by_cause : Cause n first second ranks i → (fewest i ≡ suc (fewest (at first i))) ⊎ (fewest i ≡ suc (fewest (at second i)))
        by_cause c =
            let less = inside i i< ∙ c.less ∙ ap suc (sym (inside c.on c.inside)) in
            ⊎_elim (λ e. inl (rw e less)) (λ e. inr (rw e less)) c.leads

  -- what a step leads to
  led : (m : ℕ) → m ≤ n → ((j : ℕ) → j < n → chain_in s m j ≡ walked first second ranks m j) → (j : ℕ)
      → onto (chain_in s m) (place n j) ≡ walked first second ranks m j
  unfolding onto
  led m m≤ earlier j = go (dec_lt j n)
    where
      go : Dec (j < n) → onto (chain_in s m) (place n j) ≡ walked first second ranks m j
      go (yes l) = rw (place_at l) (earlier j l)
      go (no l) =
          let past : n ≤ j = omega arith in
          rw (place_none past) (sym (walked_none first second ranks m j (omega (arith, outside j past))))

  -- its chain of at most m records is the walk
  module _ (m : ℕ) (m< : suc m ≤ n) (earlier : (j : ℕ) → j < n → chain_in s m j ≡ walked first second ranks m j) (i : ℕ) (i< : i < n) where
    stays : s.ends i ≡ true → Some (i ∷ []) ≡ walked first second ranks (suc m) i
    unfolding way
    stays e =
        let none_left : fewest i ≡ 0 = inside i i< ∙ (ranked.ends i i<).1 ((linked.end i i<).0 e) in
        rw (walked_some first second ranks (suc m) i (omega (arith, none_left)), none_left)

    moves : s.ends i ≡ false → option_map (λ c. i ∷ c) (fewer (onto (chain_in s m) (s.processor i)) (onto (chain_in s m) (s.send i)))
        ≡ walked first second ranks (suc m) i
    moves e =
        rw (
          linked.processor i i<,
          linked.send i i<,
          led m (omega arith) earlier (at first i),
          led m (omega arith) earlier (at second i),
        )
        (goes_on_lem first second ranks i m (known i i< m m< e))

    one_more : chain_in s (suc m) i ≡ walked first second ranks (suc m) i
    unfolding chain_in
    one_more = go (s.ends i) refl
      where
        go : (b : Bool) → s.ends i ≡ b
            → cond b (Some (i ∷ [])) (option_map (λ c. i ∷ c) (fewer (onto (chain_in s m) (s.processor i)) (onto (chain_in s m) (s.send i))))
            ≡ walked first second ranks (suc m) i
        go true e = stays e
        go false e = moves e

  chain_walked : (m : ℕ) → m ≤ n → (i : ℕ) → i < n → chain_in s m i ≡ walked first second ranks m i
  unfolding chain_in
  chain_walked zero m≤ i i< = sym (walked_none first second ranks zero i (omega arith))
  chain_walked (suc m) m≤ i i< = one_more m m≤ (λ j l. chain_walked m (omega arith) j l) i i<

  -- the whole chain
  pub chain_way : (i : ℕ) → i < n → unwrap_or (chain_in s n i) [] ≡ way_at first second ranks i
  unfolding way_at walked
  chain_way i i< = rw (chain_walked n (omega arith) i i<, ranked.size) (go (ltb (fewest i) n))
    where
      go : (b : Bool) → unwrap_or (cond b (Some (way first second ranks (fewest i) i)) None) [] ≡ cond b (way first second ranks (fewest i) i) []
      go true = refl
      go false = refl
