-- What is kept: at the start, what a search finds by it, and with a record more.
use Rattle.std.proofs.Common.{◌≡◌, ℕ, zero, suc, ◌+◌, ◌-◌, ◌%◌, ◌^◌, ◌<◌, ◌≤◌, Bool, true, false, eqb, List, length, get_or, set, replicate, ℤ, pos, sym, refl, ap, ◌∙◌, true≢false, arith, length-set, get_or-set_other, get_or-set_same, w32, Fits, eq-eqb, eqb-true}
use native.Mathlib.Decide.{dec_lt}
use lib.ListN.{length-replicate}
use Rattle.paper.specs.Statistics.{summed}
use Rattle.paper.specs.declared.Entry.{Entry}
use Rattle.signed.specs.Codes.{code_of, decoded}
use Rattle.signed.proofs.Codes.{code_forth}
use Rattle.store.specs.Layout.{entry_from}
use Rattle.chains.specs.Chains.{Last}
use Rattle.chains.proofs.Place.{after_set}
use Rattle.chains.proofs.Walks.{last_here, last_later, Going-back, back_begins, back_less, back_turns}
use Rattle.statistics.specs.declared.key.Key.{Key}
use Rattle.statistics.specs.declared.total.Total.{Total}
use Rattle.statistics.specs.Keys.{under, key_at, under_at, bucket_of, in_bucket}
use Rattle.statistics.specs.Totals.{one, time_in, bytes_in, total, with_one}
use Rattle.statistics.specs.Tallied.{Backward, total_to, Kept, Tallied, TotalOf}
use Rattle.statistics.proofs.Keys.{under_key, under_own, not_in, bucket_low}
use Rattle.statistics.proofs.Totals.{total_with, total_last, count_low}

-- ---- none was added

each_zero : (n b : ℕ) → ◌≡◌ {A = ℕ} (get_or (replicate n 0) b 0) 0
each_zero zero b = refl
each_zero (suc n) zero = refl
each_zero (suc n) (suc b) = each_zero n b

pub none_added : {l link counts : List ℕ} {times lengths : List ℤ} {n : ℕ} {heads : List ℕ} → heads ≡ replicate 1024 0 → n ≤ summed → length link ≡ n
    → length counts ≡ n → length times ≡ n → length lengths ≡ n
    → Tallied l n link counts times lengths heads 0
none_added e few a b c d =
    record {
      few = few;
      some = omega arith;
      all_link = a;
      all_counts = b;
      all_times = c;
      all_lengths = d;
      buckets = rw e (length-replicate {A = ℕ} 1024 0);
      last = λ b low.
          rw (e, each_zero 1024 b)
          (record { upto = omega arith; none = λ k a c. absurd (omega arith); here = λ k z. absurd (omega arith) });
      backed = λ j b a. absurd (omega arith);
      counted = λ j a. absurd (omega arith);
      timed = λ j a. absurd (omega arith);
      sized = λ j a. absurd (omega arith);
    }

-- ---- the search along a bucket

abbrev pub Backwards : List ℕ → Key → ℕ → ℕ → Type 0
Backwards l key from s = Going-back (under_at l key) (in_bucket l (bucket_of key)) from s

module _ (l link : List ℕ) (key : Key) (from : ℕ) (h : Backward l link (bucket_of key) from) where
  pub backward_begins : Backwards l key from from
  backward_begins = back_begins _ _ link from (λ j. h.backed j (bucket_of key)) h.here

  module _ (s : ℕ) (g : Backwards l key from s) (m : 0 < s) where
    pub backward_less : get_or link (s - 1) 0 < s
    backward_less = back_less _ _ link from (λ j. h.backed j (bucket_of key)) s g m

    pub backward_turns : under_at l key (s - 1) ≡ false → Backwards l key from (get_or link (s - 1) 0)
    backward_turns = back_turns _ _ link from (λ j. h.backed j (bucket_of key)) s g m (λ k. not_in l key k)

-- ---- what is found

module _ {l : List ℕ} {n : ℕ} {link counts : List ℕ} {times lengths : List ℤ} {heads : List ℕ} {i : ℕ} (h : Tallied l n link counts times lengths heads i) where
  module _ (key : Key) {b : ℕ} (is : b ≡ bucket_of key) where
    -- the head of the key's bucket
    head : Last (in_bucket l (bucket_of key)) i (get_or heads b 0)
    head = rw is (h.last (bucket_of key) (bucket_low key))

    pub from_head : Backward l link (bucket_of key) (get_or heads b 0)
    from_head =
        record {
          backed = λ j b a. h.backed j b (omega (arith, head.upto));
          upto = omega (arith, head.upto, h.some, h.all_link);
          here = head.here;
        }

    module _ (r : ℕ) (found : Last (under_at l key) (get_or heads b 0) r) where
      -- none is under the key behind the head of its bucket
      same_total : (weight : Entry → ℕ) → total weight (under key) l i ≡ total weight (under key) l r
      same_total weight =
          total_last (under key) l weight i r
          (record {
            upto = omega (arith, found.upto, head.upto);
            none = λ k a b. outside k a b (dec_lt k _);
            here = found.here;
          })
        where
          outside : (k : ℕ) → r ≤ k → k < i → Dec (k < get_or heads b 0) → under_at l key k ≡ false
          outside k a b (yes d) = found.none k a d
          outside k a b (no d) = not_in l key k (head.none k (omega arith) b)

      pub none_found : r ≡ 0 → TotalOf l key i (record { count = 0; times = 0; lengths = 0 })
      unfolding total
      none_found z = record { count = rw (same_total one, z); times = rw (same_total time_in, z); lengths = rw (same_total bytes_in, z) }

    -- or the place of the last one
    module _ (at : ℕ) (found : Last (under_at l key) (get_or heads b 0) (suc at)) where
      pub within : at < i
      within = omega (arith, found.upto, head.upto)

      pub inside : at < n
      inside = omega (arith, within, h.some)

      its_total : (weight : Entry → ℕ) → total_to weight l at ≡ total weight (under key) l i
      its_total weight =
          let same : key_at l at ≡ key = under_key l key at (found.here at refl) in
          rw same (sym (same_total (suc at) found weight))

      pub all_found : {count time length : ℕ} → count ≡ get_or counts at 0 → time ≡ code_of (get_or times at (pos 0))
          → length ≡ code_of (get_or lengths at (pos 0)) → TotalOf l key i (record { count = count; times = time; lengths = length })
      all_found a b c =
          record {
            count = a ∙ h.counted at within ∙ its_total one;
            times = b ∙ h.timed at within ∙ ap (λ (x : ℕ). x % 2 ^ 64) (its_total time_in);
            lengths = c ∙ h.sized at within ∙ ap (λ (x : ℕ). x % 2 ^ 64) (its_total bytes_in);
          }

-- ---- one record more

module _ {l : List ℕ} {n : ℕ} {link counts : List ℕ} {times lengths : List ℤ} {heads : List ℕ} {i : ℕ} (m : i < n)
    (h : Tallied l n link counts times lengths heads i) where
  -- no place and no count leaves 32 bits
  pub place_fits : Fits w32 (i + 1)
  unfolding summed
  place_fits = record { fits = omega (arith, h.few) }

  module _ {key : Key} (own : key ≡ key_at l i) {before : Total} (is : TotalOf l key i before) where
    pub few_before : before.count + 1 < 2 ^ 32
    unfolding summed
    few_before = omega (arith, is.count, count_low (under key) l i, h.few)

    -- the record itself is the last like it
    with_own : (weight : Entry → ℕ) → total_to weight l i ≡ weight (entry_from l i) + total weight (under key) l i
    with_own weight = rw own (total_with (under (key_at l i)) l weight i (under_own l i))

    more_kept : (weight : Entry → ℕ) (sums : List ℤ) (v : ℕ) → length sums ≡ n → Kept weight l sums i
        → v ≡ total weight (under key) l i % 2 ^ 64 → {z : ℤ} → z ≡ decoded ((v + weight (entry_from l i)) % 2 ^ 64)
        → Kept weight l (set sums i z) (i + 1)
    more_kept weight sums v size kept e {z} f =
        after_set (pos 0) (λ j x. code_of x ≡ total_to weight l j % 2 ^ 64) sums i z (omega (arith, size)) kept
        (rw (f, code_forth ((v + weight (entry_from l i)) % 2 ^ 64), with_own weight, e) (omega arith))

    module _ {b : ℕ} (its : b ≡ bucket_of key) where
      own_bucket : (d : ℕ) → in_bucket l d i ≡ eqb b d
      own_bucket d = rw (its, own)

      low : b < 1024
      low = rw its (bucket_low key)

      head_of : (d : ℕ) → d < 1024 → (t : Bool) → eqb b d ≡ t → Last (in_bucket l d) (i + 1) (get_or (set heads b (i + 1)) d 0)
      head_of d g true e =
          let z : b ≡ d = eqb-true b d e in
          rw (← z, get_or-set_same heads b (i + 1) 0 (omega (arith, h.buckets, low))) (last_here (in_bucket l b) i (own_bucket b ∙ eq-eqb b b refl))
      head_of d g false e =
          rw (get_or-set_other heads b d (i + 1) 0 (λ z. true≢false (sym (eq-eqb b d (sym z)) ∙ e)))
          (last_later (in_bucket l d) i (get_or heads d 0) (own_bucket d ∙ e) (h.last d g))

      back_of : (d : ℕ) → in_bucket l d i ≡ true → Last (in_bucket l d) i (get_or heads b 0)
      back_of d f = let z : b ≡ d = eqb-true b d (sym (own_bucket d) ∙ f) in rw (← z) (h.last b low)

      pub added : {all : Total} → all ≡ with_one (entry_from l i) before → {t s : ℤ} → t ≡ decoded all.times → s ≡ decoded all.lengths
          → Tallied l n (set link i (get_or heads b 0)) (set counts i all.count) (set times i t) (set lengths i s) (set heads b (i + 1)) (i + 1)
      unfolding with_one
      added {all} e {t} {s} f g =
          record {
            few = h.few;
            some = omega arith;
            all_link = simp length-set h.all_link;
            all_counts = simp length-set h.all_counts;
            all_times = simp length-set h.all_times;
            all_lengths = simp length-set h.all_lengths;
            buckets = simp length-set h.buckets;
            last = λ d g. head_of d g (eqb b d) refl;
            backed = λ j d a.
                after_set 0 (λ j x. (d : ℕ) → in_bucket l d j ≡ true → Last (in_bucket l d) j x) link i (get_or heads b 0) (omega (arith, h.all_link))
                (λ j a d. h.backed j d a) back_of j a d;
            counted = after_set 0 (λ j x. x ≡ total_to one l j) counts i all.count (omega (arith, h.all_counts)) h.counted
                (rw (e, with_own one, is.count) (omega arith));
            timed = more_kept time_in times before.times h.all_times h.timed is.times (rw e at f);
            sized = more_kept bytes_in lengths before.lengths h.all_lengths h.sized is.lengths (rw e at g);
          }
