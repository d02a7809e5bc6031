-- The merged bytes read: as many records are listed and as many lines passed over as of the two traces together, and a limit on the records
-- is all that can stop it.
use Rattle.std.specs.Prelude.{Ok}
use Prim.Native.Nat.{ℕ, suc, ◌≤◌, ◌<◌}
use native.Mathlib.Omega.{arith}
use mathlib.Core.Path.{◌≡◌, refl, ap, ◌∙◌}
use mathlib.Core.List.{List, [], ◌∷◌}
use lib.ListN.{length}
use Rattle.paper.specs.Columns.{whole_line, refused_at}
use Rattle.paper.specs.Reading.{lines_of, start, Reading, read_of}
use Rattle.paper.specs.Matching.{entry_at}
use Rattle.paper.specs.Merging.{Merging}
use Rattle.paper.specs.declared.Choice.{Choice}
use Rattle.paper.specs.declared.Entry.{Entry}
use Rattle.paper.specs.declared.Fault.TheVariants as Fault
use Rattle.matching.specs.Belongs.{processor}
use Rattle.reading.proofs.Limit.{trace_within, trace_past}
use Rattle.reading.proofs.Mixed.{AllOn, Mixture, mixed_traces, mixed_size}
use Rattle.demands.specs.Steps.{reading, entries}
use Rattle.merges.specs.Parts.{merged_trace, first, second, HoldsOn, Joins}
use Rattle.merges.specs.Trace.{listed_of_both, ReadsWhole}
use Rattle.merges.proofs.Alone.{alone_along}
use Rattle.merges.proofs.Left.{lines_mixed}

on_each : (such : ℕ → Type 0) (es : List Entry) → ((k : ℕ) → k < length es → such (processor es k)) → AllOn such es
unfolding entry_at
on_each such [] h = tt
on_each such (e ∷ es) h = (h 0 (omega arith), on_each such es (λ k l. h (suc k) (omega arith)))

-- each record is on a processor that they hold one of
all_held : (es : List Entry) → AllOn (HoldsOn es) es
all_held es = on_each (HoldsOn es) es (λ k l. (k, l, refl))

module _ (i : Merging) (j : Joins i) where
  abbrev choice : Choice
  choice = j.both.choice

  abbrev mine : ℕ → Type 0
  mine = HoldsOn (entries (first i) choice)

  abbrev yours : ℕ → Type 0
  yours = HoldsOn (entries (second i) choice)

  apart : (p : ℕ) → mine p → ¬ yours p
  apart p h g = j.apart (p, h, g)

  -- with room for as many as there are
  abbrev limit : ℕ
  limit = listed_of_both i choice

  mixture : Mixture mine yours choice limit (lines_of (merged_trace i)) 1 start (reading (first i) choice).state (reading (second i) choice).state
  mixture =
      mixed_traces mine yours choice limit apart (lines_mixed i j) (alone_along i.choice i.first choice j.both.reads_first)
      (alone_along i.choice i.second choice j.both.reads_second) (all_held (entries (first i) choice)) (all_held (entries (second i) choice))
      (omega arith)

  size : length mixture.entries ≡ limit
  size =
      mixed_size mine yours choice limit apart (lines_mixed i j) (alone_along i.choice i.first choice j.both.reads_first)
      (alone_along i.choice i.second choice j.both.reads_second) mixture

  module _ (m : ℕ) where
    within : limit ≤ m → read_of choice m (merged_trace i) ≡ record { stop = Ok tt; entries = mixture.entries; state = mixture.state }
    within h = trace_within choice m (merged_trace i) mixture.reads (omega (arith, size, h))

    pub reads_whole : limit ≤ m → ReadsWhole i choice m
    reads_whole h =
        record {
          ends = ap (λ (r : Reading). r.stop) (within h);
          lists = ap (λ (r : Reading). length r.entries) (within h) ∙ size;
          passes = ap (λ (r : Reading). r.state.passed) (within h) ∙ mixture.together.passed;
        }

    pub stops_full : m < limit → (n : ℕ) × ((read_of choice m (merged_trace i)).stop ≡ refused_at Fault.TooMany (whole_line n))
    stops_full h = trace_past choice m (merged_trace i) mixture.reads (omega (arith, size, h))
