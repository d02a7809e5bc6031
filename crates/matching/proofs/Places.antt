-- The place of the k-th send under a key: the send under the key that has k such sends before it.
use Rattle.std.specs.Prelude.{Option, Some, None, option_map}
use Rattle.std.proofs.lemmas.Option.{none-some}
use Prim.Native.Nat.{ℕ, zero, suc, ◌+◌, ◌≤◌, ◌<◌}
use native.Mathlib.Omega.{arith}
use native.Mathlib.Decide.{dec_lt}
use mathlib.Core.Path.{◌≡◌, refl, sym, ap, ◌∙◌}
use mathlib.Core.Bool.{Bool, true, false, cond, true≢false}
use mathlib.Core.List.{List, [], ◌∷◌}
use lib.ListN.{length}
use Rattle.paper.specs.Matching.{Key, is_send_of, send_place, entry_at}
use Rattle.paper.specs.declared.Entry.{Entry}
use Rattle.matching.proofs.Count.{bit, count, count_front, count_yes, count_no, count_less}

-- j is the k-th number below n that passes, k counted from 0
pub record Kth (p : ℕ → Bool) (n k j : ℕ) : Type 0 where
  pub within : j < n
  pub passes : p j ≡ true
  pub rank : count p j ≡ k

-- an option answers which number is the k-th
pub record Answers (p : ℕ → Bool) (n k : ℕ) (o : Option ℕ) : Type 0 where
  pub sound : (j : ℕ) → o ≡ Some j → Kth p n k j
  pub whole : (j : ℕ) → Kth p n k j → o ≡ Some j

-- ---- one entry more in front

abbrev shifted : (ℕ → Bool) → ℕ → Bool
shifted p i = p (suc i)

later_some : (o : Option ℕ) (j : ℕ) → option_map suc o ≡ Some j → (i : ℕ) × (j ≡ suc i) × (o ≡ Some i)
later_some None j e = absurd (none-some j e)
later_some (Some i) j e = (i, cc, refl)

module _ (p : ℕ → Bool) (n : ℕ) where
  kth_later : (k i : ℕ) → Kth (shifted p) n k i → Kth p (suc n) (bit (p 0) + k) (suc i)
  kth_later k i h =
      record { within = omega (arith, h.within); passes = h.passes; rank = count_front p i ∙ ap (λ (c : ℕ). bit (p 0) + c) h.rank }

  kth_earlier : (k i : ℕ) → Kth p (suc n) (bit (p 0) + k) (suc i) → Kth (shifted p) n k i
  kth_earlier k i h =
      record { within = omega (arith, h.within); passes = h.passes; rank = omega (arith, h.rank, count_front p i) }

  answer_later : (k : ℕ) (o : Option ℕ) → ((j : ℕ) → Kth p (suc n) (bit (p 0) + k) j → (i : ℕ) × (j ≡ suc i))
      → Answers (shifted p) n k o → Answers p (suc n) (bit (p 0) + k) (option_map suc o)
  answer_later k o pos a =
      record {
        sound = λ j e. let (i, s, f) = later_some o j e in rw s (kth_later k i (a.sound i f));
        whole = λ j h. let (i, s) = pos j h in rw (s, a.whole i (kth_earlier k i (rw s at h)));
      }

  not_first : p 0 ≡ false → (k j : ℕ) → Kth p (suc n) k j → (i : ℕ) × (j ≡ suc i)
  not_first e k zero h = absurd (true≢false (sym h.passes ∙ e))
  not_first e k (suc i) h = (i, refl)

  past_first : (k j : ℕ) → Kth p (suc n) (suc k) j → (i : ℕ) × (j ≡ suc i)
  unfolding count
  past_first k zero h = absurd (omega (arith, h.rank))
  past_first k (suc i) h = (i, refl)

  only_first : p 0 ≡ true → (j : ℕ) → Kth p (suc n) 0 j → Some 0 ≡ Some j
  unfolding bit
  only_first e zero h = refl
  only_first e (suc i) h = absurd (omega (arith, h.rank, rw e at (count_front p i)))

  no_answers : (k : ℕ) (o : Option ℕ) → p 0 ≡ false → Answers (shifted p) n k o → Answers p (suc n) k (option_map suc o)
  unfolding bit
  no_answers k o e a =
      let z : bit (p 0) + k ≡ k = rw e (omega arith) in
      rw z at (answer_later k o (not_first e (bit (p 0) + k)) a)

  -- the 0-th is the first itself, where that passes
  first_answers : (t : Bool) (o : Option ℕ) → p 0 ≡ t → Answers (shifted p) n 0 o
      → Answers p (suc n) 0 (cond t (Some 0) (option_map suc o))
  unfolding count
  first_answers true o e a =
      record {
        sound = λ j s. let z : j ≡ 0 = cc in rw z (record { within = omega arith; passes = e; rank = refl });
        whole = only_first e;
      }
  first_answers false o e a = no_answers 0 o e a

  next_answers : (t : Bool) (k : ℕ) (o r : Option ℕ) → p 0 ≡ t → Answers (shifted p) n k o → Answers (shifted p) n (suc k) r
      → Answers p (suc n) (suc k) (cond t (option_map suc o) (option_map suc r))
  unfolding bit
  next_answers true k o r e a b =
      let z : bit (p 0) + k ≡ suc k = rw e (omega arith) in
      rw z at (answer_later k o (λ j h. past_first k j (rw z at h)) a)
  next_answers false k o r e a b = no_answers (suc k) r e b

-- ---- sends

-- entry i is a send under the key
abbrev pub send_at : Key → List Entry → ℕ → Bool
send_at key es i = is_send_of key (entry_at es i)

no_kth : (p : ℕ → Bool) (k : ℕ) → Answers p 0 k None
no_kth p k =
    record {
      sound = λ j e. absurd (none-some j e);
      whole = λ j h. absurd (omega (arith, h.within));
    }

pub place_answers : (key : Key) (k : ℕ) (es : List Entry) → Answers (send_at key es) (length es) k (send_place key k es)
unfolding send_place entry_at
place_answers key k [] = no_kth _ k
place_answers key zero (e ∷ es) = first_answers (send_at key (e ∷ es)) (length es) (is_send_of key e) _ refl (place_answers key zero es)
place_answers key (suc k) (e ∷ es) =
    next_answers (send_at key (e ∷ es)) (length es) (is_send_of key e) k _ _ refl (place_answers key k es) (place_answers key (suc k) es)

-- there is no k-th where no more than k pass
pub no_more : (p : ℕ → Bool) (n k : ℕ) (o : Option ℕ) → Answers p n k o → count p n ≤ k → o ≡ None
no_more p n k None a h = refl
no_more p n k (Some j) a h = let b = a.sound j refl in absurd (omega (arith, b.rank, count_less p j n b.within b.passes))

-- where more than k pass there is a k-th
pub find_kth : (p : ℕ → Bool) (k n : ℕ) → k < count p n → (j : ℕ) × Kth p n k j
unfolding count
find_kth p k zero h = absurd (omega arith)
find_kth p k (suc n) h = go (λ g. find_kth p k n g) (dec_lt k (count p n)) (p n) refl
  where
    wider : (j : ℕ) → Kth p n k j → Kth p (suc n) k j
    wider j f = record { within = omega (arith, f.within); passes = f.passes; rank = f.rank }

    go : (k < count p n → (j : ℕ) × Kth p n k j) → Dec (k < count p n) → (t : Bool) → p n ≡ t → (j : ℕ) × Kth p (suc n) k j
    go f (yes g) t e = let (j, a) = f g in (j, wider j a)
    go f (no g) true e = (n, record { within = omega arith; passes = e; rank = omega (arith, count_yes p n e) })
    go f (no g) false e = absurd (omega (arith, count_no p n e))

pub none_left : (p : ℕ → Bool) (n k : ℕ) (o : Option ℕ) → Answers p n k o → o ≡ None → count p n ≤ k
none_left p n k o a e = go (dec_lt k (count p n))
  where
    go : Dec (k < count p n) → count p n ≤ k
    go (yes h) =
        let (j, f) = find_kth p k n h in
        absurd (none-some j (sym e ∙ a.whole j f))
    go (no h) = omega arith
