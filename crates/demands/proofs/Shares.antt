-- The ninth change request: what another share changes of a call, and what it does not.
use Rattle.std.specs.Prelude.{Option, Some, None}
use Prim.Native.Nat.{ℕ, ◌≤◌, ◌<◌}
use native.Mathlib.Omega.{arith}
use native.Mathlib.Decide.{ℕ_discrete}
use mathlib.Core.Path.{◌≡◌, refl, sym, ap, ◌∙◌, fun_ext}
use mathlib.Core.Logic.{◌↔◌}
use mathlib.Core.List.{List}
use lib.ListN.{length}
use lib.IntN.{ℤ, pos, ◌+ℤ◌}
use lib.Signed.{◌≤ℤ◌}
use Rattle.paper.specs.Numbers.{number_of}
use Rattle.paper.specs.Columns.{nowhere}
use Rattle.paper.specs.Gaps.{apart}
use Rattle.paper.specs.Clock.{Waits, time_at, settle}
use Rattle.paper.specs.Matching.{last_on, gap_from, waits_of}
use Rattle.paper.specs.Answer.{Inputs, given, most, accepted, written, judge}
use Rattle.paper.specs.declared.Choice.{Choice}
use Rattle.paper.specs.declared.Entry.{Entry}
use Rattle.paper.specs.declared.Fault.TheVariants as Fault
use Rattle.matching.specs.Belongs.{processor}
use Rattle.matching.proofs.Before.{any_two}
use Rattle.rounds.proofs.Order.{≤ℤ-trans, ≤ℤ-antisym, compare, plus_none, sum_sum, apart_sum, apart_add}
use Rattle.rounds.proofs.Gaps.{gap_down, gap_none, gap_whole}
use Rattle.rounds.proofs.Stops.{sound_same}
use Rattle.demands.specs.Parts.{number, verdict, listed, time}
use Rattle.demands.specs.Steps.{Chosen, entries, original, waits, Matched, Accepted}
use Rattle.demands.specs.Table.{When}
use Rattle.demands.specs.Accepted.{Moved}
use Rattle.demands.specs.Demand3.{Allowed, Keeping}
use Rattle.demands.specs.Shares.{with_share, today, Shares}
use Rattle.demands.proofs.Judged.{judge_accepted}
use Rattle.demands.proofs.Refusals.{accepted_exactly, refused_exactly, refusal_keeps}
use Rattle.demands.proofs.InOrder.{originals_order}
use Rattle.demands.proofs.Allowed.{directly, sound_keeping, still}
use Rattle.demands.proofs.Times.{closed, one_choice, answer, listed_is, time_is, earliest}
use Rattle.demands.proofs.Accepted.{accepted_answer}
use Rattle.demands.proofs.OneTrace.{OneTrace, matched_too, none_earlier, stays_impossible}

-- ---- "Share 0 is today's rule"

none_kept : (table : List ℕ) (es : List Entry) (x : ℕ → ℤ) → Keeping 0 table es x ↔ Allowed table es x
none_kept table es x = (λ k. k.allowed, of)
  where
    of : Allowed table es x → Keeping 0 table es x
    of a =
        record {
          allowed = a;
          gaps = λ j k l d. rw (gap_none (original es j) (original es k), plus_none (x j)) (a.order j k d.before l d.on);
        }

gap_today : (es : List Entry) (i : ℕ) (o : Option ℕ) → gap_from 0 es i o ≡ 0
unfolding gap_from
gap_today es i None = refl
gap_today es i (Some j) = gap_none (original es j) (original es i)

-- the same waits with these gaps
abbrev with_gaps : Waits → (ℕ → ℕ) → Waits
with_gaps w gap = record { size = w.size; original = w.original; before = w.before; gap = gap; send = w.send; latency = w.latency }

as_today : (table : List ℕ) (es : List Entry) → waits_of 0 table es ≡ today table es
unfolding waits_of today
as_today table es =
    ap (with_gaps (today table es))
    (fun_ext {f = λ i. gap_from 0 es i (last_on es (processor es i) i)} {g = λ i. 0} (λ i. gap_today es i (last_on es (processor es i) i)))

-- ---- "A share above 1,000 is refusal 2"

above : (i : Inputs) (choice : Choice) → Chosen i choice → 1000 < i.asked.share → number i ≡ 2
unfolding When number_of
above i choice c high = ((refused_exactly i Fault.WrongLength nowhere).1 (choice, c, λ (size, lent, low). omega arith, refl)).0

-- ---- the same call at another share

one_trace : (i : Inputs) (share : ℕ) → OneTrace i (with_share share i)
one_trace i share = record { trace = refl; asked = refl }

matched_at : (i : Inputs) (choice : Choice) (share : ℕ) → share ≤ 1000 → Matched i choice → Matched (with_share share i) choice
unfolding most
matched_at i choice share low =
    matched_too i (with_share share i) (one_trace i share) refl choice (λ (size, lent, old). (size, lent, low)) (λ lows. lows)

-- ---- "A trace consistent at share 0 still is", and so is every one in which no time moved, at any share

module _ (i : Inputs) (a : Accepted i) (unmoved : ¬ Moved i a.choice) where
  abbrev es : List Entry
  es = entries i a.choice

  stays : (k : ℕ) → k < length es → time_at a.times k ≡ original es k
  unfolding waits_of
  stays k l =
      compare (original es k) (time_at a.times k) (λ less. absurd (unmoved (k, rw (listed_is i a) l, rw (time_is i a k l) less)))
      (λ back. ≤ℤ-antisym back ((answer i a).least.sound.above k l))

  originals_allowed : Allowed i.latencies es (original es)
  unfolding waits_of
  originals_allowed =
      (sound_keeping i.asked.share i.latencies es
      (sound_same (waits i a.choice) (closed i a.choice) (time_at a.times) (original es) stays (answer i a).least.sound)).allowed

  module _ (share : ℕ) (low : share ≤ 1000) where
    same_settled : settle (waits_of share i.latencies es) ≡ settle (waits i a.choice)
    same_settled =
        let begun = a.matched.compared.levelled.read.begun in
        still share i.latencies es low originals_allowed ∙ sym (still i.asked.share i.latencies es begun.sizes.2 originals_allowed)

    at_share : Accepted (with_share share i)
    unfolding written most
    at_share =
        record {
          choice = a.choice;
          rounds = a.rounds;
          times = a.times;
          matched = matched_at i a.choice share low a.matched;
          settles = same_settled ∙ a.settles;
          room = a.room;
        }

    same_outcome : judge (with_share share i) ≡ judge i
    unfolding at_share accepted written most waits_of
    same_outcome = judge_accepted (with_share share i) at_share ∙ sym (judge_accepted i a)

unmoved_same : (i : Inputs) (share : ℕ) → share ≤ 1000 → number i ≡ 0 → ¬ (verdict i ≡ 2) → judge (with_share share i) ≡ judge i
unmoved_same i share low e none-moved =
    let a = (accepted_exactly i).0 e in
    let told = accepted_answer i a a.choice a.matched.compared.levelled.read.begun.chosen in
    same_outcome i a (λ m. none-moved (told.moves.1 m)) share low

-- a refusal has verdict 0
consistent_accepted : (i : Inputs) → verdict i ≡ 1 → number i ≡ 0
consistent_accepted i e = go (ℕ_discrete (number i) 0)
  where
    go : Dec (number i ≡ 0) → number i ≡ 0
    go (yes z) = z
    go (no h) = absurd (omega (arith, (refusal_keeps i h).verdict, e))

-- ---- a larger share

module _ (i : Inputs) (share more : ℕ) (up : share ≤ more) where
  at_more : OneTrace (with_share share i) (with_share more i)
  at_more = one_trace (with_share share i) more

  raised_later : number (with_share share i) ≡ 0 → number (with_share more i) ≡ 0
      → (k : ℕ) → k < listed (with_share share i) → time (with_share share i) k ≤ℤ time (with_share more i) k
  raised_later e f =
      none_earlier (with_share share i) (with_share more i) at_more up (λ k. omega arith) ((accepted_exactly (with_share share i)).0 e)
      ((accepted_exactly (with_share more i)).0 f)

  raised_impossible : more ≤ 1000 → number (with_share share i) ≡ 15 → number (with_share more i) ≡ 15
  unfolding most
  raised_impossible low =
      stays_impossible (with_share share i) (with_share more i) at_more up (λ k. omega arith) refl (λ (size, lent, old). (size, lent, low))
      (λ lows. lows)

-- ---- the whole gaps

module _ (share : ℕ) (full : share ≡ 1000) (table : List ℕ) (es : List Entry) (x : ℕ → ℤ) (kept : Keeping share table es x)
    (order : (j k : ℕ) → j < k → k < length es → processor es j ≡ processor es k → original es j ≤ℤ original es k) where
  -- with the originals in order, so that their gaps add up
  abbrev Apart : ℕ → ℕ → Type 0
  Apart j k = (original es j ≤ℤ original es k) × ((x j +ℤ pos (apart (original es j) (original es k))) ≤ℤ x k)

  over : (j m k : ℕ) → Apart j m → Apart m k → Apart j k
  over j m k (a, b) (c, d) = (≤ℤ-trans a c, rw (← apart_add a c) (sum_sum (x j) (x m) (x k) _ _ b d))

  whole_gaps : (j k : ℕ) → j < k → k < length es → processor es j ≡ processor es k → Apart j k
  whole_gaps =
      any_two es (length es) Apart over
      (λ j m l f. (order j m f.before l f.on, rw (full, gap_whole (original es j) (original es m)) at (kept.gaps j m l (directly es j m f))))

whole : (i : Inputs) (choice : Choice) → Chosen i choice → number i ≡ 0 → i.asked.share ≡ 1000
    → (j k : ℕ) → j < k → k < listed i → processor (entries i choice) j ≡ processor (entries i choice) k
    → (time i j +ℤ pos (apart (original (entries i choice) j) (original (entries i choice) k))) ≤ℤ time i k
whole i choice c e full j k b l on =
    let a = (accepted_exactly i).0 e in
    let read = a.matched.compared.levelled.read in
    let same = one_choice i a.choice choice read.begun.chosen c in
    (whole_gaps i.asked.share full i.latencies (entries i choice) (time i) (earliest i a choice c).keeping
    (originals_order choice (most (given i)) i.trace (rw same at read.whole)) j k b (rw (listed_is i a, same) at l) on).1

pub shares : Shares
shares =
    record {
      gap = λ a b. apart_sum;
      rounded_down = gap_down;
      none_kept = none_kept;
      as_today = as_today;
      above = above;
      consistent = λ i share low e. unmoved_same (with_share 0 i) share low (consistent_accepted (with_share 0 i) e) (λ two. omega (arith, two, e));
      unmoved = unmoved_same;
      raised_later = raised_later;
      raised_impossible = raised_impossible;
      whole = λ i choice c e full. whole i choice c e (omega (arith, full));
    }
