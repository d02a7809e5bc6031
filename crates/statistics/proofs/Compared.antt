-- One pair: what is decided over numbers is what the paper says of the records.
use Rattle.std.specs.Prelude.{Some, None}
use Rattle.std.proofs.Common.{◌≡◌, ℕ, ◌+◌, ◌*◌, ◌%◌, ◌^◌, ◌<◌, ◌≤◌, Bool, true, false, cond, not, ◌&&◌, ◌||◌, eqb, leb, List, ℤ, pos, ◌-ℤ◌, nat_abs, sym, refl, ap, ◌∙◌, arith, eqb-true}
use Rattle.paper.specs.Tests.{eq_z, minus, one_of}
use Rattle.paper.specs.Matching.{count_if, is_on}
use Rattle.paper.specs.Events.{standing_of}
use Rattle.paper.specs.Statistics.{is_listed, differs, summed, is_of, sum_if, lengths_if, count_differs, spent, time_differs, volume_kind, on_volume, volume_differs}
use Rattle.paper.specs.declared.Entry.{Entry}
use Rattle.forms.proofs.Tests.{both}
use Rattle.matching.proofs.Keys.{eq_z_true}
use Rattle.reading.specs.Tidy.{InRange}
use Rattle.statistics.specs.declared.key.Key.{Key}
use Rattle.statistics.specs.declared.total.Total.{Total}
use Rattle.statistics.specs.Keys.{under}
use Rattle.statistics.specs.Totals.{since_least, one, time_in, bytes_in}
use Rattle.statistics.specs.Tallied.{TotalOf}
use Rattle.statistics.proofs.Since.{since_is}
use Rattle.statistics.specs.Tells.{volume_events, first_kind, second_kind, other_number, is_within, Comparable, other_time, tells_other}
use Rattle.statistics.specs.Ready.{AllHeld, earlier, kind_at, processor_at, sums_differ, pair_differs}
use Rattle.statistics.proofs.Sums.{weigh, counted, sized, weigh_low, counts_apart, total_earlier, length_earlier, each_in_range, each_time_low, each_length_low}
use Rattle.statistics.proofs.Signed.{since_sum, within, apart}

-- a key by its parts
abbrev pub key_of : ℤ → ℤ → ℕ → Key
key_of kind event processor = record { kind = kind; event = event; processor = processor }

-- no record is of two types
types_apart : (a b event : ℤ) (p : ℕ) → eq_z a b ≡ false → (e : Entry) → is_of a event p e ≡ true → is_of b event p e ≡ false
unfolding is_of
types_apart a b event p differ e h =
    let (two, kind) = both (is_on p e && eq_z e.body.event event) (eq_z e.body.kind a) h in
    let is : e.body.kind ≡ a = eq_z_true _ _ kind in
    rw (two, is) differ

module _ (l : List ℕ) (n i : ℕ) (in_reach : i ≤ n) (few : n ≤ summed) (held : AllHeld l n) (event : ℤ) (p : ℕ) where
  abbrev es : List Entry
  es = earlier l n i

  module _ {kind : ℤ} {t : Total} (is : TotalOf l (key_of kind event p) i t) where
    count_is : t.count ≡ weigh one (is_of kind event p) es
    unfolding under
    count_is = is.count ∙ total_earlier l n i in_reach one (is_of kind event p)

    pub count_of : t.count ≡ count_if (is_of kind event p) es
    count_of = count_is ∙ sym (counted (is_of kind event p) es)

    times_are : t.times ≡ weigh time_in (is_of kind event p) es % 2 ^ 64
    unfolding under
    times_are = is.times ∙ ap (λ (x : ℕ). x % 2 ^ 64) (total_earlier l n i in_reach time_in (is_of kind event p))

    times_low : weigh time_in (is_of kind event p) es ≤ t.count * 1999999999999999
    times_low = rw count_is (weigh_low time_in 1999999999999999 (is_of kind event p) es (each_time_low l n i in_reach held))

    -- no sum of lengths reaches 2^64
    pub lengths_of : t.lengths ≡ lengths_if (is_of kind event p) es
    unfolding under summed
    lengths_of =
        let sum = weigh bytes_in (is_of kind event p) es in
        let low : sum ≤ weigh one (is_of kind event p) es * 999999999 = weigh_low bytes_in 999999999 (is_of kind event p) es (each_length_low l n i in_reach held) in
        let count : weigh one (is_of kind event p) es ≤ i = omega (arith, sym (counted (is_of kind event p) es), counts_apart (is_of kind event p) (λ e. false) (λ e h. refl) es, length_earlier l n i in_reach) in
        is.lengths ∙ ap (λ (x : ℕ). x % 2 ^ 64) (total_earlier l n i in_reach bytes_in (is_of kind event p)) ∙ small sum (omega arith) ∙ sym (sized (is_of kind event p) es)
      where
        small : (m : ℕ) → m < 2 ^ 64 → m % 2 ^ 64 ≡ m
        small m h = omega arith

  -- ---- two record types

  module _ {a b : ℤ} (differ : eq_z a b ≡ false) {first second : Total} (is : TotalOf l (key_of a event p) i first) (so : TotalOf l (key_of b event p) i second) where
    -- where they are equally many there are at most 9,222 of each
    pub comparable : Comparable first second
    unfolding summed
    comparable same =
        let all = counts_apart (is_of a event p) (is_of b event p) (types_apart a b event p differ) es in
        record {
          few = omega (arith, all, length_earlier l n i in_reach, count_is is, count_is so);
          low_entries = omega (arith, times_are is, times_low is);
          low_exits = omega (arith, times_are so, times_low so);
        }

  module _ {first second : Total} (is : TotalOf l (key_of (minus 3) event p) i first) where
    module _ (so : TotalOf l (key_of (minus 2) event p) i second) where
      pub count_tells : (told : ℤ) → other_number told (first.count + second.count) ≡ count_differs es p event told
      unfolding other_number count_differs
      count_tells told = rw (count_of is, count_of so)

    module _ (so : TotalOf l (key_of (minus 4) event p) i second) (told : ℤ) (range : InRange told) where
      -- of equally many, no sum of times reaches 2^64
      exact : first.count ≡ second.count → {kind : ℤ} {t : Total} → TotalOf l (key_of kind event p) i t → t.count ≡ first.count
          → t.times ≡ weigh time_in (is_of kind event p) es
      exact same {kind} {t} it e = omega (arith, times_are it, times_low it, (comparable refl is so same).few)

      spent_near : first.count ≡ second.count
          → is_within first.count (since_least told + first.times) (1000000000000000 + second.times) ≡ leb (nat_abs (told -ℤ spent es p event)) first.count
      unfolding spent
      spent_near same =
          let each = each_in_range l n i in_reach held in
          let k = 1000000000000000 * count_if (is_of (minus 3) event p) es in
          let equal : count_if (is_of (minus 4) event p) es ≡ count_if (is_of (minus 3) event p) es = sym (count_of so) ∙ sym same ∙ count_of is in
          let exits = rw equal at (since_sum (is_of (minus 4) event p) es each) in
          let entries = since_sum (is_of (minus 3) event p) es each in
          rw (exact same is refl, exact same so (sym same))
          (sym (within first.count _ _ (told -ℤ (sum_if (is_of (minus 4) event p) es -ℤ sum_if (is_of (minus 3) event p) es)) (apart told (sum_if (is_of (minus 4) event p) es) (sum_if (is_of (minus 3) event p) es) k (since_is told range) exits entries)))

      pub time_tells : other_time told first second ≡ time_differs es p event told
      unfolding other_time time_differs
      time_tells = rw (← count_of is, ← count_of so) (go (eqb first.count second.count) refl)
        where
          go : (t : Bool) → eqb first.count second.count ≡ t
              → (not (eq_z told (minus 1000000)) && t && not (is_within first.count (since_least told + first.times) (1000000000000000 + second.times)))
              ≡ (not (eq_z told (minus 1000000)) && t && not (leb (nat_abs (told -ℤ spent es p event)) first.count))
          go true e = rw (spent_near (eqb-true _ _ e))
          go false e = neither (not (eq_z told (minus 1000000))) _ _
            where
              neither : (s a b : Bool) → (s && false && a) ≡ (s && false && b)
              neither true a b = refl
              neither false a b = refl

-- ---- a volume

module _ (l : List ℕ) (n i : ℕ) (in_reach : i ≤ n) (few : n ≤ summed) (held : AllHeld l n) (event : ℤ) (p : ℕ) {first : Total}
    (is : TotalOf l (key_of (cond (eq_z event (minus 21)) (minus 3) (minus 4)) event p) i first) (told : ℤ) where
  pub volume_tells : cond (one_of volume_events event) (other_number told first.lengths) false ≡ volume_differs (earlier l n i) p event told
  unfolding other_number volume_differs volume_kind one_of
  volume_tells = rw (lengths_of l n i in_reach few held event p is) (go (eq_z event (minus 21)) (eq_z event (minus 51)) (eq_z event (minus 52)))
    where
      none_due : (t : Bool) → false ≡ (t && false)
      none_due true = refl
      none_due false = refl

      go : (s r f : Bool)
          → cond (s || (r || (f || false))) (not (eq_z told (minus 1)) && not (eq_z told (pos (lengths_if (is_of (cond s (minus 3) (minus 4)) event p) (earlier l n i))))) false
          ≡ (not (eq_z told (minus 1)) && on_volume (earlier l n i) p event told (cond s (Some (minus 3)) (cond (r || (f || false)) (Some (minus 4)) None)))
      go true r f = refl
      go false true f = refl
      go false false true = refl
      go false false false = none_due (not (eq_z told (minus 1)))

-- ---- the record types that are asked for differ

pub kinds_apart : (kind event : ℤ) → eq_z (first_kind kind event) (second_kind kind) ≡ false
unfolding first_kind second_kind
kinds_apart kind event = go (eq_z kind (minus 101)) (eq_z kind (minus 102)) (eq_z event (minus 21))
  where
    go : (a b c : Bool) → eq_z (cond a (minus 3) (cond b (minus 3) (cond c (minus 3) (minus 4)))) (cond a (minus 4) (minus 2)) ≡ false
    go true b c = refl
    go false true c = refl
    go false false true = refl
    go false false false = refl

-- ---- a pair whose event is listed

module _ (l : List ℕ) (n i : ℕ) (in_reach : i ≤ n) (few : n ≤ summed) (held : AllHeld l n) (event told : ℤ) (range : InRange told) {first second : Total}
    (is : TotalOf l (key_of (first_kind (kind_at l i) event) event (processor_at l i)) i first)
    (so : TotalOf l (key_of (second_kind (kind_at l i)) event (processor_at l i)) i second) where
  pub sums_comparable : Comparable first second
  sums_comparable = comparable l n i in_reach few held event (processor_at l i) (kinds_apart (kind_at l i) event) is so

  pub sums_tell : tells_other (kind_at l i) event told first second ≡ sums_differ l n i event told
  unfolding tells_other sums_differ first_kind second_kind
  sums_tell = go (eq_z (kind_at l i) (minus 101)) (eq_z (kind_at l i) (minus 102)) is so
    where
      go : (a b : Bool) → TotalOf l (key_of (cond a (minus 3) (cond b (minus 3) (cond (eq_z event (minus 21)) (minus 3) (minus 4)))) event (processor_at l i)) i first
          → TotalOf l (key_of (cond a (minus 4) (minus 2)) event (processor_at l i)) i second
          → cond a (other_time told first second) (cond b (other_number told (first.count + second.count)) (cond (one_of volume_events event) (other_number told first.lengths) false))
          ≡ cond a (time_differs (earlier l n i) (processor_at l i) event told) (cond b (count_differs (earlier l n i) (processor_at l i) event told) (volume_differs (earlier l n i) (processor_at l i) event told))
      go true b is so = time_tells l n i in_reach few held event (processor_at l i) is so told range
      go false true is so = count_tells l n i in_reach few held event (processor_at l i) is so told
      go false false is so = volume_tells l n i in_reach few held event (processor_at l i) is told

-- the same for what the code has in hand, by other names
module _ (l : List ℕ) (n i : ℕ) (in_reach : i ≤ n) (few : n ≤ summed) (held : AllHeld l n) (event told : ℤ) (range : InRange told) {kind e k₁ k₂ : ℤ} {p : ℕ}
    (its-kind : kind ≡ kind_at l i) (its-event : e ≡ event) (its-processor : p ≡ processor_at l i) (one : k₁ ≡ first_kind kind e) (two : k₂ ≡ second_kind kind)
    {first second : Total} (is : TotalOf l (key_of k₁ e p) i first) (so : TotalOf l (key_of k₂ e p) i second) where
  first_is : TotalOf l (key_of (first_kind (kind_at l i) event) event (processor_at l i)) i first
  first_is = rw (← its-kind, ← its-event, ← its-processor, ← one) is

  second_is : TotalOf l (key_of (second_kind (kind_at l i)) event (processor_at l i)) i second
  second_is = rw (← its-kind, ← its-event, ← its-processor, ← two) so

  pub in_hand_comparable : Comparable first second
  in_hand_comparable = sums_comparable l n i in_reach few held event told range first_is second_is

  pub in_hand_tell : {z : ℤ} → z ≡ told → {r : Bool} → r ≡ tells_other kind e z first second → r ≡ sums_differ l n i event told
  in_hand_tell a b = b ∙ rw (its-kind, its-event, a) (sums_tell l n i in_reach few held event told range first_is second_is)

-- ---- any pair

module _ (l : List ℕ) (n i : ℕ) (event told : ℤ) {e : ℤ} (its-event : e ≡ event) {listed : Bool} (tells : listed ≡ is_listed (standing_of e)) where
  pub listed_pair : listed ≡ true → {z : ℤ} → z ≡ told → {r : Bool} → r ≡ sums_differ l n i e z → r ≡ pair_differs l n i event told
  unfolding differs sums_differ
  listed_pair t a b = b ∙ rw (← its-event, ← tells, t, a)

  pub other_pair : listed ≡ false → false ≡ pair_differs l n i event told
  unfolding differs
  other_pair t = rw (← its-event, ← tells, t)
