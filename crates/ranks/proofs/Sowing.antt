-- The records without steps into the queue, one after the other; when all are through, the steps can be gone back from them.
use Prim.Native.Nat.{ℕ, suc, ◌+◌, ◌≤◌, ◌<◌}
use native.Mathlib.Omega.{arith}
use native.Mathlib.Numerals.{add-one}
use mathlib.Core.Path.{◌≡◌, refl, sym, ap, ◌∙◌}
use mathlib.Core.Logic.{◌↔◌}
use mathlib.Core.List.{List}
use lib.ListN.{length, set, length-set}
use lib.Seq.{get_or-set_same, get_or-set_other}
use borrow.Author.Count.{below_none, below_more}
use Rattle.ranks.specs.Ranked.{at}
use Rattle.ranks.specs.Inner.{known, InQueue, Sown, moved, full, still, Seeded}
use Rattle.ranks.proofs.Known.{known_yes, known_no, known_same, known_most}
use Rattle.ranks.proofs.Spreading.{Spread}

pub seed_none : (before queue : List ℕ) → length queue ≡ length before → Seeded (length before) before 0 before queue 0
unfolding known
seed_none before queue size =
    record {
      queued = record {
        all_ranks = refl;
        all_places = size;
        counted = refl;
        inside = below_none _;
        low = below_none _;
        each = below_none _;
        most = below_none _;
      };
      upto = omega arith;
      none_yet = below_none _;
      ends = below_none _;
      others = below_none _;
      rest = λ k l. refl;
    }

module _ (n : ℕ) (before : List ℕ) {i : ℕ} {ranks queue : List ℕ} {tail : ℕ} (s : Seeded n before i ranks queue tail) (i< : i < n) where
  -- it is not in the queue
  module _ (steps : ¬ (at ranks i ≡ 0)) where
    ranks' : List ℕ
    ranks' = set ranks i n

    here : at ranks' i ≡ n
    unfolding ranks'
    here = get_or-set_same ranks i n 0 (rw s.queued.all_ranks i<)

    there : (k : ℕ) → ¬ (k ≡ i) → at ranks' k ≡ at ranks k
    unfolding ranks'
    there k q = get_or-set_other ranks i k n 0 q

    seed_moved : Seeded n before (i + 1) ranks' queue tail
    unfolding ranks'
    seed_moved =
        record {
          queued = record {
            all_ranks = length-set ranks i n ∙ s.queued.all_ranks;
            all_places = s.queued.all_places;
            counted =
                rw (add-one i)
                (known_no n ranks' i (rw here (omega arith)) ∙ known_same n ranks ranks' i (λ k k<. there k (λ q. omega arith)) ∙ s.queued.counted);
            inside = λ m m<. omega (arith, s.queued.inside m m<);
            low = λ m m<. rw (there (at queue m) (λ q. omega (arith, s.queued.inside m m<))) (s.queued.low m m<);
            each =
                below_more (λ k. at ranks' k < n → InQueue queue tail k) i
                (λ k k< l. s.queued.each k k< (rw (there k (λ q. omega arith)) at l)) (λ l. absurd (omega (arith, here, l)));
            most =
                below_more (λ k. at ranks' k ≤ n) i (λ k k<. rw (there k (λ q. omega arith)) (s.queued.most k k<)) (rw here (omega arith));
          };
          upto = omega arith;
          none_yet = λ m m<. rw (there (at queue m) (λ q. omega (arith, s.queued.inside m m<))) (s.none_yet m m<);
          ends =
              below_more (λ k. (at ranks' k ≡ 0) ↔ (at before k ≡ 0)) i (λ k k<. rw (there k (λ q. omega arith)) (s.ends k k<))
              (λ z. absurd (omega (arith, here, z)), λ z. absurd (steps (s.rest i (omega arith) ∙ z)));
          others =
              below_more (λ k. ¬ (at ranks' k ≡ 0) → at ranks' k ≡ n) i (λ k k<. rw (there k (λ q. omega arith)) (s.others k k<)) (λ z. here);
          rest = λ k l. there k (λ q. omega arith) ∙ s.rest k (omega arith);
        }

  -- it is
  module _ (no_steps : at ranks i ≡ 0) where
    queue' : List ℕ
    queue' = set queue tail i

    tail_low : tail ≤ i
    tail_low = rw (← s.queued.counted) (known_most n ranks i)

    last : at queue' tail ≡ i
    unfolding queue'
    last = get_or-set_same queue tail i 0 (omega (arith, s.queued.all_places, tail_low))

    early : (m : ℕ) → m < tail → at queue' m ≡ at queue m
    unfolding queue'
    early m m< = get_or-set_other queue tail m i 0 (λ q. omega arith)

    seed_still : Seeded n before (i + 1) ranks queue' (tail + 1)
    unfolding queue'
    seed_still =
        record {
          queued = record {
            all_ranks = s.queued.all_ranks;
            all_places = length-set queue tail i ∙ s.queued.all_places;
            counted = rw (add-one i, add-one tail) (known_yes n ranks i (rw no_steps (omega arith)) ∙ ap suc s.queued.counted);
            inside =
                below_more (λ m. at queue' m < i + 1) tail (λ m m<. rw (early m m<) (omega (arith, s.queued.inside m m<))) (rw last (omega arith));
            low = below_more (λ m. at ranks (at queue' m) ≤ m) tail (λ m m<. rw (early m m<) (s.queued.low m m<)) (rw (last, no_steps) (omega arith));
            each =
                below_more (λ k. at ranks k < n → InQueue queue' (tail + 1) k) i
                (λ k k< l. let (m, m<, is) = s.queued.each k k< l in (m, omega (arith, m<), early m m< ∙ is)) (λ l. (tail, omega arith, last));
            most = below_more (λ k. at ranks k ≤ n) i s.queued.most (rw no_steps (omega arith));
          };
          upto = omega arith;
          none_yet = below_more (λ m. at ranks (at queue' m) ≡ 0) tail (λ m m<. rw (early m m<) (s.none_yet m m<)) (rw last no_steps);
          ends =
              below_more (λ k. (at ranks k ≡ 0) ↔ (at before k ≡ 0)) i s.ends
              (λ z. sym (s.rest i (omega arith)) ∙ z, λ z. s.rest i (omega arith) ∙ z);
          others = below_more (λ k. ¬ (at ranks k ≡ 0) → at ranks k ≡ n) i s.others (λ z. absurd (z no_steps));
          rest = λ k l. s.rest k (omega arith);
        }

  pub seed_more : {tail' : ℕ} {to-ranks to-queue : List ℕ} → Sown i n ranks queue tail tail' to-ranks to-queue → Seeded n before (i + 1) to-ranks to-queue tail'
  unfolding ranks' queue'
  seed_more (moved steps) = seed_moved steps
  seed_more (full l) = absurd (let low = rw s.queued.counted at (known_most n ranks i) in omega (arith, low, l, s.queued.all_places))
  seed_more (still no_steps l) = seed_still no_steps

-- all of them are sown
pub seeded : {n : ℕ} {before : List ℕ} {i : ℕ} {ranks queue : List ℕ} {tail : ℕ} → Seeded n before i ranks queue tail → length ranks ≤ i
    → Seeded n before n ranks queue tail
seeded {n} {before} {i} {ranks} {queue} {tail} s all =
    let e : i ≡ n = omega (arith, s.upto, s.queued.all_ranks) in
    rw e at s

-- then the steps can be gone back from them
pub seeds_spread : (n : ℕ) (first second before : List ℕ) {ranks queue : List ℕ} {tail : ℕ} → Seeded n before n ranks queue tail
    → Spread n first second before 0 ranks queue tail
seeds_spread n first second before {ranks} {queue} {tail} s =
    record {
      queued = s.queued;
      upto = omega arith;
      rising = λ m l m≤ l<. rw (s.none_yet m (omega arith)) (omega arith);
      near = λ h m m<. rw (s.none_yet m m<) (omega arith);
      ends = s.ends;
      caused = λ i i< l steps. absurd (omega (arith, s.others i i< steps, l));
      done = λ both m m<. absurd (omega arith);
    }
