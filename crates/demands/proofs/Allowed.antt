-- The times that the demand speaks of are the paper's sound times.
use Rattle.std.specs.Prelude.{Some}
use Prim.Native.Nat.{ℕ, ◌+◌, ◌*◌, ◌≤◌, ◌<◌}
use native.Mathlib.Omega.{arith}
use mathlib.Core.Path.{◌≡◌}
use mathlib.Core.List.{List}
use lib.ListN.{length, get_or}
use lib.IntN.{ℤ, pos, ◌+ℤ◌}
use lib.Signed.{◌≤ℤ◌}
use Rattle.paper.specs.Gaps.{gap_of}
use Rattle.paper.specs.Clock.{Sound, Least, settle, settled, listed}
use Rattle.paper.specs.Matching.{send_of, last_on, latency_for, gap_from, waits_of}
use Rattle.paper.specs.declared.Entry.{Entry}
use Rattle.matching.proofs.Belong.{processor_at, role_at, belongs}
use Rattle.matching.proofs.Before.{LastOn, last_on_lem, on_last, any_two}
use Rattle.rounds.proofs.Order.{≤ℤ-trans, sum_up}
use Rattle.rounds.proofs.Gaps.{own_gap}
use Rattle.rounds.proofs.Still.{still_settled}
use Rattle.demands.specs.Steps.{original}
use Rattle.demands.specs.Demand3.{Allowed, DirectlyBefore, Keeping, Earliest}
use Rattle.demands.proofs.Closed.{waits_closed}

-- ---- the record before on the processor, which is waited for

module _ (es : List Entry) where
  pub directly : (j k : ℕ) → LastOn es (processor_at es k) k j → DirectlyBefore es j k
  directly j k f = record { before = f.before; on = f.on; none_between = λ m a b. f.none_between m a (omega (arith, f.before, b)) }

  waited_for : (j k : ℕ) → DirectlyBefore es j k → last_on es (processor_at es k) k ≡ Some j
  waited_for j k d =
      on_last es (processor_at es k) k j
      (record { before = d.before; on = d.on; none_between = λ m a b. d.none_between m a (omega (arith, a, b)) })

module _ (share : ℕ) (table : List ℕ) (es : List Entry) where
  -- "the entry at 64 times sender plus receiver"
  latency_at_lem : (j k : ℕ) → send_of es k ≡ Some j
      → latency_for table (processor_at es k) (role_at es k) ≡ get_or table (64 * processor_at es j + processor_at es k) 0
  unfolding latency_for
  latency_at_lem j k e = let b = belongs es k j e in rw (b.receives, b.from)

  gap_at : (j k : ℕ) → last_on es (processor_at es k) k ≡ Some j
      → gap_from share es k (last_on es (processor_at es k) k) ≡ gap_of share (original es j) (original es k)
  unfolding gap_from
  gap_at j k e = rw e

  pub keeping_sound : {x : ℕ → ℤ} → Keeping share table es x → Sound (waits_of share table es) x
  unfolding waits_of
  keeping_sound {x} a =
      record {
        above = a.allowed.above;
        within = a.allowed.format;
        order = λ k j l e. rw (gap_at j k e) (a.gaps j k l (directly es j k (last_on_lem es (processor_at es k) k j e)));
        clock = λ k j l e. rw (latency_at_lem j k e) (a.allowed.clock j k l e);
      }

  module _ {x : ℕ → ℤ} (s : Sound (waits_of share table es) x) where
    kept : (j k : ℕ) → k < length es → DirectlyBefore es j k → (x j +ℤ pos (gap_of share (original es j) (original es k))) ≤ℤ x k
    unfolding waits_of
    kept j k l d = let e = waited_for es j k d in rw (gap_at j k e) at (s.order k j l e)

    up : (j k : ℕ) → k < length es → DirectlyBefore es j k → x j ≤ℤ x k
    up j k l d = ≤ℤ-trans (sum_up (x j) _) (kept j k l d)

    pub sound_keeping : Keeping share table es x
    unfolding waits_of
    sound_keeping =
        record {
          allowed = record {
            format = s.within;
            above = s.above;
            order = any_two es (length es) (λ j k. x j ≤ℤ x k) (λ j m k. ≤ℤ-trans) (λ j k l f. up j k l (directly es j k f));
            clock = λ j k l e. rw (← latency_at_lem j k e) (s.clock k j l e);
          };
          gaps = kept;
        }

  pub least_earliest : {x : ℕ → ℤ} → Least (waits_of share table es) x → Earliest share table es x
  unfolding waits_of
  least_earliest l = record { keeping = sound_keeping l.sound; earliest = λ y a. l.least y (keeping_sound a) }

  -- originals that document 01 allows keep every share of their own gaps, and so they settle in no round
  pub still : share ≤ 1000 → Allowed table es (original es) → settle (waits_of share table es) ≡ settled 0 (listed (length es) (original es))
  unfolding waits_of
  still low a =
      still_settled (waits_of share table es) (waits_closed share table es)
      (keeping_sound
      (record {
        allowed = a;
        gaps = λ j k l d. own_gap share (original es j) (original es k) low (a.order j k d.before l d.on);
      }))
