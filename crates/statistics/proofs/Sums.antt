-- What records come to, as a list and by their places.
use Rattle.std.proofs.Common.{◌≡◌, ℕ, zero, suc, ◌+◌, ◌*◌, ◌<◌, ◌≤◌, Bool, true, false, cond, List, [], ◌∷◌, length, take, sym, refl, ap, ◌∙◌, arith}
use Rattle.paper.specs.Clock.{listed}
use Rattle.paper.specs.Matching.{count_if}
use Rattle.paper.specs.Statistics.{length_in, lengths_if}
use Rattle.paper.specs.declared.Entry.{Entry}
use Rattle.reading.specs.Tidy.{InRange}
use Rattle.store.specs.Layout.{entry_from, entries_in}
use Rattle.store.proofs.Listed.{length_listed}
use Rattle.statistics.specs.Totals.{one, time_in, bytes_in, total}
use Rattle.statistics.proofs.Since.{since_low}
use Rattle.statistics.specs.Ready.{Held, AllHeld, earlier}

-- ---- over a list

-- what an entry adds: its weight where it passes
abbrev part : (Entry → ℕ) → (Entry → Bool) → Entry → ℕ
part weight test e = cond (test e) (weight e) 0

unfoldable pub weigh : (Entry → ℕ) → (Entry → Bool) → List Entry → ℕ
weigh weight test [] = 0
weigh weight test (e ∷ es) = part weight test e + weigh weight test es

module _ (test : Entry → Bool) where
  pub counted : (es : List Entry) → count_if test es ≡ weigh one test es
  unfolding count_if weigh
  counted [] = refl
  counted (e ∷ es) = go (test e) (counted es)
    where
      go : (t : Bool) → count_if test es ≡ weigh one test es → cond t (suc (count_if test es)) (count_if test es) ≡ cond t 1 0 + weigh one test es
      go true h = omega arith
      go false h = omega arith

  pub sized : (es : List Entry) → lengths_if test es ≡ weigh bytes_in test es
  unfolding lengths_if weigh
  sized [] = refl
  sized (e ∷ es) = go (test e) (sized es)
    where
      go : (t : Bool) → lengths_if test es ≡ weigh bytes_in test es
          → cond t (length_in e.body.role + lengths_if test es) (lengths_if test es) ≡ cond t (bytes_in e) 0 + weigh bytes_in test es
      go true h = omega arith
      go false h = omega arith

-- every entry is such
unfoldable pub Each : (Entry → Type 0) → List Entry → Type 0
Each such [] = Unit
Each such (e ∷ es) = such e × Each such es

-- no weight is above a number of times the count
pub weigh_low : (weight : Entry → ℕ) (most : ℕ) (test : Entry → Bool) (es : List Entry) → Each (λ e. weight e ≤ most) es
    → weigh weight test es ≤ weigh one test es * most
unfolding weigh Each
weigh_low weight most test [] h = omega arith
weigh_low weight most test (e ∷ es) h = go (test e) (weigh_low weight most test es h.1)
  where
    go : (t : Bool) → weigh weight test es ≤ weigh one test es * most
        → cond t (weight e) 0 + weigh weight test es ≤ (cond t 1 0 + weigh one test es) * most
    go true l = more (weigh one test es) (weight e) (weigh weight test es) most h.0 l
      where
        more : (c w s m : ℕ) → w ≤ m → s ≤ c * m → w + s ≤ (1 + c) * m
        more c w s m a b = omega arith
    go false l = omega arith

-- two tests that no entry passes both of pass no more than there are
pub counts_apart : (p q : Entry → Bool) → ((e : Entry) → p e ≡ true → q e ≡ false) → (es : List Entry)
    → weigh one p es + weigh one q es ≤ length es
unfolding weigh
counts_apart p q apart [] = omega arith
counts_apart p q apart (e ∷ es) = go (p e) refl (q e) refl (counts_apart p q apart es)
  where
    go : (s : Bool) → p e ≡ s → (t : Bool) → q e ≡ t → weigh one p es + weigh one q es ≤ length es
        → cond s 1 0 + weigh one p es + (cond t 1 0 + weigh one q es) ≤ suc (length es)
    go true a true b h = absurd (let z : ◌≡◌ {A = ℕ} 0 1 = let f = apart e a in cc in omega arith)
    go true a false b h = omega arith
    go false a true b h = omega arith
    go false a false b h = omega arith

-- ---- by places

module _ (weight : Entry → ℕ) (test : Entry → Bool) where
  -- the first i of a row of entries
  unfoldable upto : (ℕ → Entry) → ℕ → ℕ
  upto f zero = 0
  upto f (suc i) = part weight test (f i) + upto f i

  upto_front : (f : ℕ → Entry) (i : ℕ) → upto f (suc i) ≡ part weight test (f 0) + upto (λ k. f (suc k)) i
  unfolding upto
  upto_front f zero = refl
  upto_front f (suc i) = let h = upto_front f i in omega arith

  weigh_listed : (i : ℕ) (f : ℕ → Entry) → weigh weight test (listed i f) ≡ upto f i
  unfolding weigh upto
  weigh_listed zero f = refl
  weigh_listed (suc i) f = omega (arith, weigh_listed i (λ k. f (suc k)), upto_front f i)

  total_upto : (l : List ℕ) (i : ℕ) → total weight test l i ≡ upto (entry_from l) i
  unfolding total upto
  total_upto l zero = refl
  total_upto l (suc i) = go (test (entry_from l i)) (total_upto l i)
    where
      go : (t : Bool) → total weight test l i ≡ upto (entry_from l) i
          → cond t (weight (entry_from l i) + total weight test l i) (total weight test l i) ≡ cond t (weight (entry_from l i)) 0 + upto (entry_from l) i
      go true h = omega arith
      go false h = omega arith

take_listed : {A : Type 0} (i n : ℕ) (f : ℕ → A) → i ≤ n → take i (listed n f) ≡ listed i f
take_listed zero n f h = refl
take_listed (suc i) zero f h = absurd (omega arith)
take_listed (suc i) (suc n) f h = ap (λ (xs : List _). f zero ∷ xs) (take_listed i n (λ k. f (suc k)) (omega arith))

each_listed : (such : Entry → Type 0) (i : ℕ) (f : ℕ → Entry) → ((k : ℕ) → k < i → such (f k)) → Each such (listed i f)
unfolding Each
each_listed such zero f h = tt
each_listed such (suc i) f h = (h 0 (omega arith), each_listed such i (λ k. f (suc k)) (λ k a. h (suc k) (omega arith)))

-- ---- the records of a store before place i

module _ (l : List ℕ) (n i : ℕ) (in_reach : i ≤ n) where
  earlier_listed : earlier l n i ≡ listed i (entry_from l)
  unfolding earlier entries_in
  earlier_listed = take_listed i n (entry_from l) in_reach

  pub total_earlier : (weight : Entry → ℕ) (test : Entry → Bool) → total weight test l i ≡ weigh weight test (earlier l n i)
  total_earlier weight test = rw earlier_listed (total_upto weight test l i ∙ sym (weigh_listed weight test i (entry_from l)))

  pub length_earlier : length (earlier l n i) ≡ i
  length_earlier = rw earlier_listed (length_listed i (entry_from l))

  module _ (held : AllHeld l n) where
    each_earlier : (such : Entry → Type 0) → ((e : Entry) → Held e → such e) → Each such (earlier l n i)
    each_earlier such so = rw earlier_listed (each_listed such i (entry_from l) (λ k a. so (entry_from l k) (held k (omega arith))))

    pub each_in_range : Each (λ e. InRange e.body.time) (earlier l n i)
    each_in_range = each_earlier _ (λ e h. h.time)

    pub each_time_low : Each (λ e. time_in e ≤ 1999999999999999) (earlier l n i)
    each_time_low = each_earlier _ (λ e h. since_low e.body.time h.time)

    pub each_length_low : Each (λ e. bytes_in e ≤ 999999999) (earlier l n i)
    each_length_low = each_earlier _ (λ e h. h.length)
