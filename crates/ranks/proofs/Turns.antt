-- A turn of the loop, and its end: when the queue is through, the records have the fewest steps.
use Prim.Native.Nat.{ℕ, suc, ◌+◌, ◌≤◌, ◌<◌}
use native.Mathlib.Omega.{arith}
use native.Mathlib.Decide.{dec_lt}
use mathlib.Core.Path.{◌≡◌, refl, sym, ◌∙◌}
use mathlib.Core.Logic.{inl, inr}
use mathlib.Core.List.{List}
use lib.ListN.{length}
use borrow.Author.Count.{below_more}
use Rattle.ranks.specs.Ranked.{at, OneEach, Leads, Ranked}
use Rattle.ranks.specs.Inner.{Inverts, Seeded, Tables, Head, Turned, SpreadFrom}
use Rattle.ranks.proofs.Spreading.{Both, Spread, Marks, mark_keeps, tail_most}

-- the one record whose step leads to j
led : (n : ℕ) (table into : List ℕ) → length table ≡ n → Inverts table into → OneEach table
    → (i j : ℕ) → i < n → j < n → at table i ≡ j → at into j ≡ i
led n table into size inv one i j i< j< e = rw (← e) (inv.back one i (omega (arith, size)) (omega (arith, size, e)))

-- the tables of a turn are those of the first one
pub tables_now : {n : ℕ} {first second after receive ranks ranks' : List ℕ} → Tables n first second after receive ranks → length ranks' ≡ n
    → Tables n first second after receive ranks'
tables_now t size =
    record {
      few = t.few;
      all_first = t.all_first;
      all_second = t.all_second;
      all_after = t.all_after;
      all_receive = t.all_receive;
      all_ranks = size;
    }

-- what a turn asks, and that the queue keeps its places
module _ (n : ℕ) (first second before : List ℕ) where
  pub head_in : {head : ℕ} {ranks queue : List ℕ} {tail : ℕ} → Spread n first second before head ranks queue tail → head < tail → Head n head ranks queue
  head_in {head} s h =
      record {
        there = omega (arith, h, tail_most n first second before s, s.queued.all_places);
        inside = s.queued.inside head h;
        known = omega (arith, s.queued.low head h, h, tail_most n first second before s);
      }

  pub same_queue : {head : ℕ} {ranks queue : List ℕ} {tail : ℕ} → Spread n first second before head ranks queue tail
      → {i : ℕ} {ranks₀ queue₀ : List ℕ} {tail₀ : ℕ} → Seeded n before i ranks₀ queue₀ tail₀ → length queue ≡ length queue₀
  same_queue s sown = s.queued.all_places ∙ sym sown.queued.all_places

module _ (n : ℕ) (first second before : List ℕ) (size₁ : length first ≡ n) (size₂ : length second ≡ n) where
  abbrev Going : (head : ℕ) (ranks queue : List ℕ) (tail : ℕ) → Type 0
  Going = Spread n first second before

  -- ---- a turn

  module _ (after receive : List ℕ) (inv₁ : Inverts first after) (inv₂ : Inverts second receive) where
    module _ {head : ℕ} {ranks queue : List ℕ} {tail tail' : ℕ} {ranks' queue' : List ℕ} (s : Going head ranks queue tail) (h : head < tail)
        (t : Turned first second after receive n head ranks queue tail tail' ranks' queue') where
      abbrev j : ℕ
      j = at queue head

      one : Marks n first second before first j (at after j) head ranks queue tail t.tail₁ t.ranks₁ t.queue₁
      one = mark_keeps n first second before first size₁ j (λ k e. inl e) s h refl t.one

      two : Marks n first second before second j (at receive j) head t.ranks₁ t.queue₁ t.tail₁ tail' ranks' queue'
      two =
          mark_keeps n first second before second size₂ j (λ k e. inr e) one.spread (omega (arith, h, one.more)) one.same_head
          (rw one.same_rank t.two)

      -- whoever is led to the head by a step has at most one step more
      reached : Both n first second before → (i : ℕ) → i < n → Leads first second i j → at ranks' i ≤ suc (at ranks j)
      reached (single, _) i i< (inl e) =
          let is = led n first after size₁ inv₁ single i j i< (s.queued.inside head h) e in
          let low = rw is at (one.marked (rw is i<) (rw is e)) in
          omega (arith, low, two.falls i i<)
      reached (_, single) i i< (inr e) =
          let is = led n second receive size₂ inv₂ single i j i< (s.queued.inside head h) e in
          rw (is, one.same_rank) at (two.marked (rw is i<) (rw is e))

      pub turn_keeps : Going (head + 1) ranks' queue' tail'
      turn_keeps =
          let s' = two.spread in
          let same_j : at queue' head ≡ j = two.same_head ∙ one.same_head in
          let same_rank : at ranks' j ≡ at ranks j = two.same_rank ∙ one.same_rank in
          record {
            queued = s'.queued;
            upto = omega (arith, h, one.more, two.more);
            rising = s'.rising;
            near =
                λ l m m<.
                let far = s'.near (omega arith) m m< in
                let up = s'.rising head (head + 1) (omega arith) l in
                omega (arith, far, up);
            ends = s'.ends;
            caused = s'.caused;
            done =
                λ both.
                below_more (λ m. (i : ℕ) → i < n → Leads first second i (at queue' m) → at ranks' i ≤ suc (at ranks' (at queue' m))) head
                (λ m m<. s'.done both m m<) (λ i i< to. rw (same_j, same_rank) (reached both i i< (rw same_j at to)));
          }

  -- ---- the end

  pub all_ranked : {head : ℕ} {ranks queue : List ℕ} {tail : ℕ} → Going head ranks queue tail → tail ≤ head → OneEach first → OneEach second
      → Ranked n first second before ranks
  all_ranked {head} {ranks} {queue} {tail} s through one two =
      record {
        size = s.queued.all_ranks;
        ends = s.ends;
        most = s.queued.most;
        caused = s.caused;
        fewest = λ i j i< j< to. go i j i< j< to (dec_lt (at ranks j) n);
      }
    where
      go : (i j : ℕ) → i < n → j < n → Leads first second i j → Dec (at ranks j < n) → at ranks i ≤ suc (at ranks j)
      go i j i< j< to (yes l) =
          let (m, m<, is) = s.queued.each j j< l in
          rw is at (s.done (one, two) m (omega (arith, m<, through)) i i< (rw is to))
      go i j i< j< to (no l) = omega (arith, s.queued.most i i<)

-- from whatever ranks the records were sown
pub all_done : {n : ℕ} {first second ranks₀ queue₀ : List ℕ} {tail₀ : ℕ} {head : ℕ} {ranks queue : List ℕ} {tail : ℕ} → length first ≡ n → length second ≡ n
    → ((before : List ℕ) → Seeded n before n ranks₀ queue₀ tail₀ → Spread n first second before head ranks queue tail) → tail ≤ head
    → SpreadFrom n first second ranks₀ queue₀ tail₀ ranks
all_done {n} {first} {second} size₁ size₂ going through =
    record {
      from = λ before sown. record { ranked = all_ranked n first second before size₁ size₂ (going before sown) through };
    }
