-- No record is led to by two steps of a kind: it is the record before one record only, and each receive has a send of its own.
use Rattle.std.specs.Prelude.{Option, Some, unwrap_or}
use Prim.Native.Nat.{ℕ, ◌<◌}
use native.Mathlib.Omega.{arith}
use native.Mathlib.Decide.{dec_lt}
use mathlib.Core.Path.{◌≡◌, refl, sym, ap, ◌∙◌}
use mathlib.Core.Bool.{Bool, true, false, cond, ◌&&◌}
use mathlib.Core.List.{List}
use lib.ListN.{length, get_or}
use lib.Dec.{ltb}
use lib.IntN.{ℤ, pos, ◌+ℤ◌}
use Rattle.paper.specs.Clock.{listed, time_at}
use Rattle.paper.specs.Matching.{last_on, send_of}
use Rattle.paper.specs.declared.Entry.{Entry}
use Rattle.matching.proofs.Belong.{processor_at}
use Rattle.matching.proofs.Before.{LastOn, last_on_lem}
use Rattle.matching.proofs.Own.{own_send}
use Rattle.store.proofs.Listed.{length_listed, listed_at}
use Rattle.chains.specs.Places.{places_of}
use Rattle.paper.specs.Tests.{eq_z}
use Rattle.chains.proofs.Places.{some_place}
use Rattle.waits.specs.Tables.{befores_of}
use Rattle.steps.specs.Tables.{exact_at, exact_table}
use Rattle.steps.proofs.Exact.{exact_long, exact_at_lem}
use Rattle.ranks.specs.Ranked.{at, OneEach}

-- ---- what is told once of each record

module _ (n : ℕ) (f : ℕ → Option ℕ) (own : (i k j : ℕ) → i < n → k < n → f i ≡ Some j → f k ≡ Some j → i ≡ k) where
  table_single : OneEach (listed n (λ i. unwrap_or (f i) n))
  table_single i k i< k< e l =
      let size = length_listed n (λ m. unwrap_or (f m) n) in
      let i≤ : i < n = omega (arith, i<, size) in
      let k≤ : k < n = omega (arith, k<, size) in
      let at_i = listed_at n (λ m. unwrap_or (f m) n) i 0 i≤ in
      let at_k = listed_at n (λ m. unwrap_or (f m) n) k 0 k≤ in
      let low : unwrap_or (f i) n < n = omega (arith, at_i, l, size) in
      let same : unwrap_or (f k) n ≡ unwrap_or (f i) n = sym at_k ∙ sym e ∙ at_i in
      own i k (unwrap_or (f i) n) i≤ k≤ (some_place n (f i) low) (some_place n (f k) (rw same low) ∙ ap (λ (j : ℕ). Some j) same)

-- ---- the two tables

module _ (es : List Entry) where
  own_before : (i k j : ℕ) → i < length es → k < length es → last_on es (processor_at es i) i ≡ Some j → last_on es (processor_at es k) k ≡ Some j → i ≡ k
  own_before i k j i< k< e f = go (last_on_lem es (processor_at es i) i j e) (last_on_lem es (processor_at es k) k j f) (dec_lt i k) (dec_lt k i)
    where
      go : LastOn es (processor_at es i) i j → LastOn es (processor_at es k) k j → Dec (i < k) → Dec (k < i) → i ≡ k
      go p q (yes l) other = absurd (q.none_between i p.before l (sym p.on ∙ q.on))
      go p q (no l) (yes m) = absurd (p.none_between k q.before m (sym q.on ∙ p.on))
      go p q (no l) (no m) = omega arith

  pub befores_single : OneEach (befores_of es)
  unfolding befores_of
  befores_single = table_single (length es) (λ i. last_on es (processor_at es i) i) own_before

  pub sends_single : OneEach (places_of es)
  unfolding places_of
  sends_single = table_single (length es) (send_of es) (own_send es)

-- ---- and of those that are kept exactly

module _ (times : List ℤ) (waits table : List ℕ) where
  abbrev n : ℕ
  n = length table

  kept : (wait i j : ℕ) → exact_at times wait n i j < n → j ≡ exact_at times wait n i j
  unfolding exact_at
  kept wait i j l = go (ltb j (length times) && eq_z (time_at times i) (time_at times j +ℤ pos wait)) l
    where
      go : (b : Bool) → cond b j n < n → j ≡ cond b j n
      go true l = refl
      go false l = absurd (omega arith)

  abbrev exact : List ℕ
  exact = exact_table times waits n table

  exact_was : (i : ℕ) → i < n → at exact i < n → at table i ≡ at exact i
  exact_was i i< l =
      let is = exact_at_lem times waits n table i i< in
      kept (get_or waits i 0) i (at table i) (rw is at l) ∙ sym is

  pub exact_single : OneEach table → OneEach exact
  exact_single single i k i< k< e l =
      let long = exact_long times waits n table in
      let i≤ : i < n = omega (arith, i<, long) in
      let k≤ : k < n = omega (arith, k<, long) in
      let low : at exact i < n = omega (arith, l, long) in
      let was_i = exact_was i i≤ low in
      let was_k = exact_was k k≤ (rw e at low) in
      single i k i≤ k≤ (was_i ∙ e ∙ sym was_k) (rw was_i low)
