-- The steps are gone back from the head of the queue: what holds then, and that marking a record keeps it.
use Prim.Native.Nat.{ℕ, suc, ◌+◌, ◌≤◌, ◌<◌}
use native.Mathlib.Omega.{arith}
use native.Mathlib.Decide.{dec_lt}
use native.Mathlib.Numerals.{add-one}
use mathlib.Core.Path.{◌≡◌, refl, sym, ap, ◌∙◌}
use mathlib.Core.Logic.{◌↔◌}
use mathlib.Core.List.{List}
use lib.ListN.{length, set, length-set}
use lib.Seq.{get_or-set_same, get_or-set_other}
use borrow.Author.Count.{below_more}
use Rattle.ranks.specs.Ranked.{at, OneEach, Leads, Cause}
use Rattle.ranks.specs.Inner.{Queue, InQueue, Marked, outside, other, early, full, new}
use Rattle.ranks.proofs.Known.{known_most, known_less, known_set}

module _ (n : ℕ) (first second before : List ℕ) where
  -- no record is led to by two steps of a kind
  abbrev pub Both : Type 0
  Both = OneEach first × OneEach second

  pub record Spread (head : ℕ) (ranks queue : List ℕ) (tail : ℕ) : Type 0 where
    pub queued : Queue n n ranks queue tail
    pub upto : head ≤ tail
    pub rising : (m l : ℕ) → m ≤ l → l < tail → at ranks (at queue m) ≤ at ranks (at queue l)
    pub near : head < tail → (m : ℕ) → m < tail → at ranks (at queue m) ≤ suc (at ranks (at queue head))
    pub ends : (i : ℕ) → i < n → (at ranks i ≡ 0) ↔ (at before i ≡ 0)
    pub caused : (i : ℕ) → i < n → at ranks i < n → ¬ (at ranks i ≡ 0) → Cause n first second ranks i
    pub done : Both → (m : ℕ) → m < head → (i : ℕ) → i < n → Leads first second i (at queue m) → at ranks i ≤ suc (at ranks (at queue m))

  module _ {head : ℕ} {ranks queue : List ℕ} {tail : ℕ} (s : Spread head ranks queue tail) where
    -- the queue is never longer than the records are many, and shorter as long as one is not known
    pub tail_most : tail ≤ n
    tail_most = rw (← s.queued.counted) (known_most n ranks n)

    tail_less : (i : ℕ) → i < n → n ≤ at ranks i → tail < n
    tail_less i i< unknown = rw (← s.queued.counted) (known_less n ranks i unknown n i<)

    -- a known record has at most one step more than the head's
    pub known_near : head < tail → (i : ℕ) → i < n → at ranks i < n → at ranks i ≤ suc (at ranks (at queue head))
    known_near h i i< l = let (m, m<, is) = s.queued.each i i< l in rw is at (s.near h m m<)

  -- what marking a record leaves
  pub record Marks (table : List ℕ) (j i : ℕ) (head : ℕ) (ranks queue : List ℕ) (tail : ℕ) (tail' : ℕ) (ranks' queue' : List ℕ) : Type 0 where
    pub spread : Spread head ranks' queue' tail'
    pub more : tail ≤ tail'
    pub same_head : at queue' head ≡ at queue head
    pub same_rank : at ranks' j ≡ at ranks j
    pub falls : (k : ℕ) → k < n → at ranks' k ≤ at ranks k
    pub marked : i < n → at table i ≡ j → at ranks' i ≤ suc (at ranks j)

  module _ (table : List ℕ) (size : length table ≡ n) (j : ℕ) (leads : (k : ℕ) → at table k ≡ j → Leads first second k j) where
    module _ {head : ℕ} {ranks queue : List ℕ} {tail : ℕ} (s : Spread head ranks queue tail) (h : head < tail) (is : at queue head ≡ j) where
      -- nothing changed, and the record was known
      stays : (i : ℕ) → (i < n → at table i ≡ j → at ranks i < n) → Marks table j i head ranks queue tail tail ranks queue
      stays i there =
          record {
            spread = s;
            more = omega arith;
            same_head = refl;
            same_rank = refl;
            falls = λ k k<. omega arith;
            marked = λ i< e. rw is at (known_near s h i i< (there i< e));
          }

      -- a record that was not known goes into the queue behind the others
      module _ (i : ℕ) (i< : i < n) (e : at table i ≡ j) (unknown : n ≤ at ranks i) where
        ranks' : List ℕ
        ranks' = set ranks i (suc (at ranks j))

        queue' : List ℕ
        queue' = set queue tail i

        tail< : tail < n
        tail< = tail_less s i i< unknown

        j< : j < n
        j< = rw is at (s.queued.inside head h)

        j_low : at ranks j ≤ head
        j_low = rw is at (s.queued.low head h)

        rank_here : at ranks' i ≡ suc (at ranks j)
        unfolding ranks'
        rank_here = get_or-set_same ranks i (suc (at ranks j)) 0 (rw s.queued.all_ranks i<)

        rank_other : (k : ℕ) → ¬ (k ≡ i) → at ranks' k ≡ at ranks k
        unfolding ranks'
        rank_other k q = get_or-set_other ranks i k (suc (at ranks j)) 0 q

        rank_there : (k : ℕ) → at ranks k < n → at ranks' k ≡ at ranks k
        rank_there k l = rank_other k (λ q. let z : at ranks k ≡ at ranks i = ap (at ranks) q in omega arith)

        place_here : at queue' tail ≡ i
        unfolding queue'
        place_here = get_or-set_same queue tail i 0 (rw s.queued.all_places tail<)

        place_there : (m : ℕ) → m < tail → at queue' m ≡ at queue m
        unfolding queue'
        place_there m m< = get_or-set_other queue tail m i 0 (λ q. omega arith)

        -- a record that was in the queue
        old : (m : ℕ) → m < tail → at ranks' (at queue' m) ≡ at ranks (at queue m)
        old m m< = rw (place_there m m<) (rank_there (at queue m) (omega (arith, s.queued.low m m<, tail<)))

        last : at ranks' (at queue' tail) ≡ suc (at ranks j)
        last = rw place_here rank_here

        -- what holds of the old places and of the new one
        places : (P : ℕ → Type 0) → ((m : ℕ) → m < tail → P m) → P tail → (m : ℕ) → m < tail + 1 → P m
        places P earlier here = below_more P tail earlier here

        -- what holds of the record and of every other
        records : (P : ℕ → Type 0) → P i → ((k : ℕ) → ¬ (k ≡ i) → P k) → (k : ℕ) → P k
        records P here others k = go (dec_lt k i) (dec_lt i k)
          where
            go : Dec (k < i) → Dec (i < k) → P k
            go (yes l) more = others k (λ q. omega arith)
            go (no l) (yes m) = others k (λ q. omega arith)
            go (no l) (no m) = let q : k ≡ i = omega arith in rw q here

        queued' : Queue n n ranks' queue' (tail + 1)
        unfolding ranks' queue'
        queued' =
            record {
              all_ranks = length-set ranks i (suc (at ranks j)) ∙ s.queued.all_ranks;
              all_places = length-set queue tail i ∙ s.queued.all_places;
              counted =
                  let one = known_set n ranks i unknown (suc (at ranks j)) (omega (arith, j_low, h, tail<)) (rw s.queued.all_ranks i<) n i< in
                  omega (arith, one, s.queued.counted);
              inside = places (λ m. at queue' m < n) (λ m m<. rw (place_there m m<) (s.queued.inside m m<)) (rw place_here i<);
              low =
                  places (λ m. at ranks' (at queue' m) ≤ m) (λ m m<. rw (old m m<) (s.queued.low m m<)) (rw last (omega (arith, j_low, h)));
              each =
                  records (λ k. k < n → at ranks' k < n → InQueue queue' (tail + 1) k) (λ k< l. (tail, omega arith, place_here))
                  (λ k q k< l.
                  let (m, m<, there) = s.queued.each k k< (rw (rank_other k q) at l) in
                  (m, omega (arith, m<), place_there m m< ∙ there));
              most =
                  records (λ k. k < n → at ranks' k ≤ n) (λ k<. rw rank_here (omega (arith, j_low, h, tail<)))
                  (λ k q k<. rw (rank_other k q) (s.queued.most k k<));
            }

        caused' : (k : ℕ) → k < n → at ranks' k < n → ¬ (at ranks' k ≡ 0) → Cause n first second ranks' k
        caused' =
            records (λ k. k < n → at ranks' k < n → ¬ (at ranks' k ≡ 0) → Cause n first second ranks' k)
            (λ k< l some-steps.
            record {
              on = j;
              inside = j<;
              leads = leads i e;
              less = rank_here ∙ ap suc (sym (rank_there j (omega (arith, j_low, h, tail<))));
            })
            (λ k q k< l some-steps.
            let same = rank_other k q in
            let c = s.caused k k< (rw same at l) (λ z. some-steps (same ∙ z)) in
            let low : at ranks c.on < n = omega (arith, c.less, same, l) in
            record { on = c.on; inside = c.inside; leads = c.leads; less = same ∙ c.less ∙ ap suc (sym (rank_there c.on low)) })

        goes : Marks table j i head ranks queue tail (tail + 1) ranks' queue'
        goes =
            record {
              spread =
                  record {
                    queued = queued';
                    upto = omega arith;
                    rising =
                        λ m l m≤ l<. places (λ (l : ℕ). m ≤ l → at ranks' (at queue' m) ≤ at ranks' (at queue' l))
                        (λ l l< m≤. rw (old m (omega arith), old l l<) (s.rising m l m≤ l<))
                        (λ m≤. places (λ (m : ℕ). at ranks' (at queue' m) ≤ at ranks' (at queue' tail))
                        (λ m m<. rw (old m m<, last) (rw is at (s.near h m m<))) (omega arith) m (omega arith)) l l< m≤;
                    near =
                        λ h'. places (λ m. at ranks' (at queue' m) ≤ suc (at ranks' (at queue' head)))
                        (λ m m<. rw (old m m<, old head h) (s.near h m m<)) (rw (last, old head h, is) (omega arith));
                    ends =
                        records (λ k. k < n → (at ranks' k ≡ 0) ↔ (at before k ≡ 0))
                        (λ k<. (λ z. absurd (omega (arith, rank_here, z)), λ z. absurd (let w = (s.ends i i<).1 z in omega (arith, w, i<, unknown))))
                        (λ k q k<. rw (rank_other k q) (s.ends k k<));
                    caused = caused';
                    done =
                        λ both m m< k k< to. records (λ k. k < n → Leads first second k (at queue m) → at ranks' k ≤ suc (at ranks' (at queue' m)))
                        (λ k< to.
                        let z = s.done both m m< i i< to in absurd (omega (arith, z, s.queued.low m (omega arith), h, tail<, unknown)))
                        (λ k q k< to. rw (rank_other k q, old m (omega arith)) (s.done both m m< k k< to)) k k<
                        (rw (place_there m (omega arith)) at to);
                  };
              more = omega arith;
              same_head = place_there head h;
              same_rank = rank_there j (omega (arith, j_low, h, tail<));
              falls =
                  records (λ k. k < n → at ranks' k ≤ at ranks k) (λ k<. rw rank_here (omega (arith, j_low, h, tail<, unknown)))
                  (λ k q k<. rw (rank_other k q) (omega arith));
              marked = λ k< there. rw rank_here (omega arith);
            }

      pub mark_keeps : {i : ℕ} {tail' : ℕ} {to-ranks to-queue : List ℕ} → Marked table n j i (at ranks j + 1) ranks queue tail tail' to-ranks to-queue
          → Marks table j i head ranks queue tail tail' to-ranks to-queue
      unfolding ranks' queue'
      mark_keeps {i} (outside l) = stays i (λ i< e. absurd (omega (arith, l, size)))
      mark_keeps {i} (other no_step) = stays i (λ i< e. absurd (no_step e))
      mark_keeps {i} (early l) = stays i (λ i< e. l)
      mark_keeps {i} (full l) = stays i (λ i< e. go i< (dec_lt (at ranks i) n))
        where
          go : i < n → Dec (at ranks i < n) → at ranks i < n
          go i< (yes m) = m
          go i< (no m) = absurd (omega (arith, tail_less s i i< (omega arith), l, s.queued.all_places))
      mark_keeps {i} (new l e unknown room) = rw (add-one (at ranks j)) (goes i (omega (arith, l, size)) e unknown)
