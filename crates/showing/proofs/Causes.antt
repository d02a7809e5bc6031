-- What a record of a chain is said to wait for is the chain's own step: the processor's where that leads to the next record, with what is
-- kept of the gap, else the send's, with its latency.
use Rattle.std.specs.Prelude.{Option, Some, None, unwrap_or}
use Prim.Native.Nat.{ℕ, ◌<◌}
use native.Mathlib.Omega.{arith}
use native.Mathlib.Decide.{ℕ_discrete}
use mathlib.Core.Path.{◌≡◌, refl}
use mathlib.Core.Bool.{Bool, true, false, cond}
use Rattle.std.proofs.lemmas.Option.{same_Some}
use Rattle.std.proofs.lemmas.Option.{none-some}
use mathlib.Core.List.{List}
use lib.ListN.{length}
use lib.IntN.{ℤ, pos, ◌+ℤ◌}
use lib.Dec.{eqb}
use borrow.Author.Tests.{eq-eqb, ne_eqb}
use Rattle.paper.specs.Chain.{Steps, exactly, steps_of}
use Rattle.paper.specs.Clock.{Waits, time_at}
use Rattle.paper.specs.Matching.{waits_of}
use Rattle.paper.specs.Tests.{eq_z}
use Rattle.paper.specs.declared.Entry.{Entry}
use Rattle.store.proofs.Listed.{listed_at}
use Rattle.waits.specs.Tables.{before_at, gap_at, latency_at, befores_of, gaps_of, latencies_of}
use Rattle.lines.specs.Records.{stamped_at}
use Rattle.lines.specs.declared.Cause.{Cause}
use Rattle.lines.specs.declared.Cause.TheVariants.{Sent}
use Rattle.reasons.specs.Reasons.{by_processor, cause_behind, cause_by}

-- ---- of a record before and times, whatever they are

module _ (x : ℕ → ℤ) (i j n gap : ℕ) (kept sent : Cause) where
  abbrev by : Option ℕ → Cause
  by before = cond (eqb (unwrap_or before n) j) (cond (eq_z (x i) (x j +ℤ pos gap)) kept sent) sent

  waited : (before : Option ℕ) → exactly x (x i) gap before ≡ Some j → by before ≡ kept
  unfolding exactly
  waited None e = absurd (none-some j e)
  waited (Some k) e = go (eq_z (x i) (x k +ℤ pos gap)) refl e
    where
      go : (t : Bool) → eq_z (x i) (x k +ℤ pos gap) ≡ t → cond t (Some k) None ≡ Some j → by (Some k) ≡ kept
      go true told same = let is : k ≡ j = same_Some k j same in rw (eq-eqb k j is, ← is, told)
      go false told same = absurd (none-some j same)

  unwaited : j < n → (before : Option ℕ) → (exactly x (x i) gap before ≡ Some j → ⊥) → by before ≡ sent
  unfolding exactly
  unwaited j< None h = rw (ne_eqb n j (λ e. omega arith))
  unwaited j< (Some k) h = here (ℕ_discrete k j)
    where
      here : Dec (k ≡ j) → by (Some k) ≡ sent
      here (no other) = rw (ne_eqb k j other)
      here (yes is) = go (eq_z (x i) (x j +ℤ pos gap)) refl
        where
          go : (t : Bool) → eq_z (x i) (x j +ℤ pos gap) ≡ t → by (Some k) ≡ sent
          go true told = absurd (h (rw (is, told)))
          go false told = rw (told, eq-eqb k j is)

-- ---- of a trace

module _ (share : ℕ) (latencies : List ℕ) (es : List Entry) (times : List ℤ) (i j : ℕ) (i< : i < length es) where
  abbrev w : Waits
  w = waits_of share latencies es

  abbrev steps : Steps
  steps = steps_of w (time_at times)

  abbrev told : Cause
  told = cause_by es times (befores_of es) (gaps_of share es) (latencies_of latencies es) i j

  -- the gap is kept behind that record, and nothing is said of a gap of which nothing is kept
  abbrev kept : Cause
  kept = by_processor (w.gap i) (stamped_at es (time_at times) j) (stamped_at es (time_at times) i)

  pub processor_told : steps.processor i ≡ Some j → told ≡ kept
  unfolding cause_by cause_behind steps_of waits_of befores_of gaps_of latencies_of
  processor_told e =
      rw (listed_at (length es) (before_at es) i 0 i<, listed_at (length es) (gap_at share es) i 0 i<)
      (waited (time_at times) i j (length es) _ _ (Sent _) _ e)

  pub send_told : j < length es → (steps.processor i ≡ Some j → ⊥) → told ≡ Sent (w.latency i)
  unfolding cause_by cause_behind steps_of waits_of befores_of gaps_of latencies_of
  send_told j< h =
      rw (listed_at (length es) (before_at es) i 0 i<, listed_at (length es) (gap_at share es) i 0 i<, listed_at (length es) (latency_at latencies es) i 0 i<)
      (unwaited (time_at times) i j (length es) _ _ (Sent _) j< _ h)
