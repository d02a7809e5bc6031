-- 19: the first places of the slices are room for the comparison.
use Rattle.std.specs.Prelude.{Result, Ok}
use Prim.Native.Nat.{ℕ, zero, suc, ◌<◌}
use native.Mathlib.Omega.{arith}
use mathlib.Core.Path.{◌≡◌, refl, sym, ◌∙◌}
use mathlib.Core.List.{List, [], ◌∷◌}
use borrow.Author.Tests.{eq-eqb, ne_eqb}
use lib.ListN.{length}
use lib.IntN.{ℤ}
use Rattle.paper.specs.Matching.{entry_at}
use Rattle.paper.specs.Reading.{lines_of}
use Rattle.paper.specs.Statistics.{compared_from, statistics_of}
use Rattle.paper.specs.declared.Asked.{Asked}
use Rattle.paper.specs.declared.Entry.{Entry}
use Rattle.store.specs.Layout.{entries_in, Small, AllSmall}
use Rattle.statistics.specs.Ready.{Ready}
use Rattle.reach.specs.Lines.{Comparable}
use Rattle.reach.proofs.Settling.{part_long, first}
use Rattle.paper.specs.declared.Refusal.{Refusal}

-- each of the entries that the store holds whole
pub small_at : (es : List Entry) → AllSmall es → (k : ℕ) → k < length es → Small (entry_at es k)
unfolding AllSmall entry_at
small_at [] s k h = absurd (omega arith)
small_at (e ∷ es) s zero h = s.0
small_at (e ∷ es) s (suc k) h = small_at es s.1 k (omega arith)

module _ {trace store : List ℕ} {listed : ℕ} {before latency : List ℕ} {times spare : List ℤ}
    (c : Comparable trace store listed before latency times spare) where
  all : length (first listed latency) ≡ listed
  all = part_long latency c.all_latency c.in_before

  parts_ready : Ready trace store (length (first listed latency)) (length (first listed before)) (length (first listed times)) (length (first listed spare))
  parts_ready =
      record {
        sized = record {
          few = rw all c.few;
          all_counts = part_long before refl c.in_before ∙ sym all;
          all_times = part_long times c.all_times c.in_before ∙ sym all;
          all_lengths = part_long spare c.all_spare c.in_before ∙ sym all;
        };
        holding = rw all c.holding;
      }

  -- the comparison is on
  pub compares : (asked : Asked) → asked.statistics ≡ 1 → {r : Result Unit Refusal}
      → let es = entries_in store (length (first listed latency)) in
      (Ready trace store (length (first listed latency)) (length (first listed before)) (length (first listed times)) (length (first listed spare)) → r ≡ compared_from (lines_of trace) es 0 es)
      → r ≡ statistics_of asked trace (entries_in store listed)
  unfolding statistics_of
  compares asked on is = rw (eq-eqb asked.statistics 1 on) (rw all at (is parts_ready))

-- it is off
pub not_compared : (asked : Asked) → (asked.statistics ≡ 1 → ⊥) → (trace : List ℕ) (es : List Entry) → Ok tt ≡ statistics_of asked trace es
unfolding statistics_of
not_compared asked off trace es = rw (ne_eqb asked.statistics 1 off)
