-- What the call that tells a chain came to, as text.
use Prim.Native.Nat.{ℕ, ◌/◌, ◌≤◌}
use native.Mathlib.Omega.{arith}
use mathlib.Core.Path.{◌≡◌, refl, sym, ◌∙◌}
use mathlib.Core.Bool.{Bool, true, false, cond}
use mathlib.Core.List.{List, ◌++◌}
use lib.ListN.{length, take, length-append, length-drop, length-replicate}
use lib.Seq.{take_at, length-take-le}
use lib.IntN.{ℤ}
use lib.Dec.{ltb}
use borrow.Author.Tests.{lt-ltb, eq-eqb, ne_eqb, ltb-false}
use Rattle.paper.specs.Answer.{Found, Reached, stopped, found, reach}
use Rattle.paper.specs.Chain.{chain, chain_of, on_place}
use Rattle.paper.specs.Clock.{Waits}
use Rattle.paper.specs.Columns.{nowhere}
use Rattle.paper.specs.Filling.{Query, Filling, judged, untouched, filled_with, on_list, on_reached, fill}
use Rattle.paper.specs.declared.Answer.{Answer}
use Rattle.paper.specs.declared.Entry.{Entry}
use Rattle.paper.specs.declared.Fault.TheVariants as Fault
use Rattle.paper.specs.declared.Filled.{Filled}
use Rattle.store.specs.Layout.{entries_in, too_many}
use Rattle.store.proofs.Listed.{length_listed}
use Rattle.store.proofs.Laws.{length_entries}
use Rattle.waits.specs.Tables.{before_at, latency_at, befores_of, gaps_of, gaps_by, latencies_of, befores_into, gaps_into}
use Rattle.waits.proofs.Gaps.{gaps_share, gaps_are}
use Rattle.report.specs.Put.{Put}
use Rattle.report.specs.Said.{said_shown}
use Rattle.report.specs.declared.Said.TheVariants as Said
use Rattle.reasons.specs.Reasons.{reasons_of, ReasonsInto}
use Rattle.lookup.specs.Place.{place_on}
use Rattle.showing.specs.Chained.{lent_list, answer_of, chain_shown, filled_shown}
use Rattle.showing.specs.Shown.{Wide, on_filling, on_line}

-- ---- the tables, in the first places of an array

module _ (store : List ℕ) {n : ℕ} (part post : List ℕ) (long : length part ≡ n) {rest : List ℕ} where
  pub befores_first : n ≤ 2048 → rest ≡ befores_into store part → take n (rest ++ post) ≡ befores_of (entries_in store n)
  unfolding befores_into befores_of
  befores_first few e =
      let es = entries_in store n in
      let t : ltb (length part) too_many ≡ true = lt-ltb (length part) too_many (omega (arith, long, few)) in
      let r : rest ≡ befores_of es = e ∙ rw (t, long) in
      let size : length (befores_of es) ≡ n = length_listed (length es) (before_at es) ∙ length_entries store n in
      rw r (take_at (befores_of es) post n size)

  pub gaps_first : (share : ℕ) (before : List ℕ) → rest ≡ gaps_into share store before part → share ≤ 1000
      → take n (rest ++ post) ≡ gaps_by share (entries_in store n) before
  unfolding gaps_by
  gaps_first share before e low =
      let es = entries_in store n in
      let r : rest ≡ gaps_by share es before = e ∙ sym (gaps_share store before part low) ∙ rw long in
      let size : length (gaps_by share es before) ≡ n = length_listed (length es) _ ∙ length_entries store n in
      rw r (take_at (gaps_by share es before) post n size)

  pub latencies_first : (latencies : List ℕ) → rest ≡ latencies_of latencies (entries_in store (length part))
      → take n (rest ++ post) ≡ latencies_of latencies (entries_in store n)
  unfolding latencies_of
  latencies_first latencies e =
      let es = entries_in store n in
      let r : rest ≡ latencies_of latencies es = e ∙ rw long in
      let size : length (latencies_of latencies es) ≡ n = length_listed (length es) (latency_at latencies es) ∙ length_entries store n in
      rw r (take_at (latencies_of latencies es) post n size)

-- ---- the text

module _ (share : ℕ) (latencies : List ℕ) (es : List Entry) (times : List ℤ) (chain : List ℕ) where
  pub chain_told : (n : ℕ) (before gap latency : List ℕ) {room after : List ℕ} {end : ℕ}
      → take n before ≡ befores_of es
      → (share ≤ 1000 → take n gap ≡ gaps_by share es (take n before))
      → take n latency ≡ latencies_of latencies es
      → length chain ≤ 2048
      → Wide room
      → ReasonsInto (reasons_of es times (take n before) (take n gap) (take n latency) chain) (length chain) room end after
      → share ≤ 1000
      → Put room 0 (chain_shown share latencies es times chain) end after
  unfolding chain_shown Wide
  chain_told n before gap latency {room = room} b g l few wide into low =
      let h : length chain ≤ length room / 256 = omega arith in
      let k : take n gap ≡ gaps_of share es = rw b at (g low) ∙ gaps_are share es in
      let q = rw (b, k, l) at (into.there h) in q

  module _ (f : Filled) {room after : List ℕ} {end : ℕ} where
    pub refusal_told : (f.number ≡ 0 → ⊥) → {answer : Answer} → answer ≡ answer_of f → Put room 0 (said_shown (Said.Answered answer)) end after
        → share ≤ 1000 → Put room 0 (filled_shown f share latencies es times chain) end after
    unfolding filled_shown
    refusal_told h a p low = rw (ne_eqb f.number 0 h, ← a) p

    pub filling_told : f.number ≡ 0 → (share ≤ 1000 → Put room 0 (chain_shown share latencies es times chain) end after)
        → share ≤ 1000 → Put room 0 (filled_shown f share latencies es times chain) end after
    unfolding filled_shown
    filling_told h p low = rw (eq-eqb f.number 0 h) (p low)

-- ---- what is filled is in the list, which stays as long as it was

pub record Kept (list : List ℕ) (f : Filling ℕ) : Type 0 where
  pub within : f.answer.filled ≤ length list
  pub long : length f.list ≡ length list

module _ (list : List ℕ) where
  on_list_lem : (items : List ℕ) → Kept list (on_list items list)
  unfolding on_list untouched filled_with
  on_list_lem items = by (ltb (length list) (length items)) refl
    where
      by : (t : Bool) → ltb (length list) (length items) ≡ t → Kept list (cond t (untouched list Fault.NoRoom nowhere) (filled_with items list))
      by true e = record { within = omega arith; long = refl }
      by false e =
          let h : length items ≤ length list = ltb-false (length list) (length items) e in
          record { within = h; long = rw (length-append, length-drop) (omega arith) }

  on_place_lem : (w : Waits) (x : ℕ → ℤ) (place : ℕ) → Kept list (on_place w x place list)
  unfolding on_place untouched
  on_place_lem w x place = by (ltb place w.size)
    where
      by : (t : Bool) → Kept list (cond t (on_list (chain_of w x place) list) (untouched list Fault.NoPlace nowhere))
      by true = on_list_lem (chain_of w x place)
      by false = record { within = omega arith; long = refl }

  on_reached_lem : (more : Found → Filling ℕ) → ((f : Found) → Kept list (more f)) → (r : Reached) → Kept list (on_reached list more r)
  unfolding on_reached untouched
  on_reached_lem more kept (stopped fault site) = record { within = omega arith; long = refl }
  on_reached_lem more kept (found f) = kept f

  pub chain_kept : (q : Query) (place : ℕ) → Kept list (chain q place list)
  unfolding chain fill
  chain_kept q place = on_reached_lem _ (λ f. on_place_lem _ _ place) (reach (judged q))

-- ---- the call

module _ (q : Query) (line : List ℕ) (es : List Entry) (times : List ℤ) {place : ℕ} {list list' : List ℕ} {filled : Filled}
    (at : place ≡ place_on line es) (blank : list ≡ lent_list) (told : ◌≡◌ {A = Filling ℕ} (record { answer = filled; list = list' }) (chain q place list)) where
  kept : Kept list (record { answer = filled; list = list' })
  kept = rw told (chain_kept list q place)

  two_thousand : length list ≡ 2048
  unfolding lent_list
  two_thousand = rw blank (length-replicate {A = ℕ} 2048 0)

  pub in_list : filled.filled ≤ length list'
  in_list = omega (arith, kept.within, kept.long)

  pub taken : filled.filled ≡ length (take filled.filled list')
  taken = sym (length-take-le filled.filled list' in_list)

  pub few_taken : length (take filled.filled list') ≤ 2048
  few_taken = omega (arith, taken, kept.within, two_thousand)

  pub line_told : {room after : List ℕ} {end : ℕ}
      → (q.asked.share ≤ 1000 → Put room 0 (filled_shown filled q.asked.share q.latencies es times (take filled.filled list')) end after)
      → q.asked.share ≤ 1000
      → Put room 0 (on_line q line es times) end after
  unfolding on_line on_filling
  line_told p low =
      let e : chain q (place_on line es) lent_list ≡ record { answer = filled; list = list' } = rw (← at, ← blank) (sym told) in
      rw e (p low)
