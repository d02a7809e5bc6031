-- "1 to 4": the tests told, and what is cleared read.
use Rattle.std.specs.Prelude.{Option, Result, Some, None, Ok, Err}
use Prim.Native.Nat.{ℕ, ◌≤◌}
use mathlib.Core.Path.{◌≡◌, refl}
use mathlib.Core.Bool.{Bool, true, false, cond, ◌&&◌}
use mathlib.Core.List.{List, [], ◌∷◌}
use lib.ListN.{length}
use Rattle.std.specs.List.{list_all}
use Rattle.paper.specs.Tests.{all_up_to}
use lib.Dec.{eqb, leb}
use borrow.Author.Tests.{leb-true, eqb-true}
use Rattle.paper.specs.Columns.{nowhere}
use Rattle.paper.specs.Answer.{Given, Reached, most, longest, heard, right_sizes, low_latencies, stopped, on_read, on_choice, reach}
use Rattle.paper.specs.Reading.{read_of}
use Rattle.paper.specs.declared.Choice.{Choice}
use Rattle.paper.specs.declared.Fault.{Fault}
use Rattle.paper.specs.declared.Site.{Site}
use Rattle.forms.proofs.Tests.{both}
use Rattle.clearance.specs.Clearance.{cleared_under, cleared_by, clearance}

-- ---- 3

-- the library's test of each latency
each_low : (l : List ℕ) → list_all (λ n. leb n 1000000) l ≡ all_up_to 1000000 l
unfolding all_up_to
each_low [] = refl
each_low (n ∷ l) = rw (each_low l)

pub all_low : (l : List ℕ) → list_all (λ n. leb n 1000000) l ≡ low_latencies l
unfolding low_latencies
all_low l = each_low l

-- ---- what the call then comes to

module _ (g : Given) where
  -- the lines are read, under a choice
  pub record Reads (choice : Choice) (x : Reached) : Type 0 where
    pub is : x ≡ on_read g choice (read_of choice (most g) g.trace) (read_of choice (most g) g.trace).stop
    pub short : length g.trace ≤ longest
    pub share : g.asked.share ≤ 1000

  -- of the code's clearance, how far the paper's call comes
  abbrev Comes : Result Choice Fault → Reached → Type 0
  Comes (Err fault) x = x ≡ stopped fault nowhere
  Comes (Ok choice) x = Reads choice x

  -- the parts of the test
  sizes : right_sizes g ≡ true → ((eqb (length g.latencies) 4096 && eqb g.places (most g)) ≡ true) × (leb g.asked.share 1000 ≡ true)
  unfolding right_sizes
  sizes e = both (eqb (length g.latencies) 4096 && eqb g.places (most g)) (leb g.asked.share 1000) e

  pub places_right : right_sizes g ≡ true → g.places ≡ most g
  places_right e = eqb-true g.places (most g) (both (eqb (length g.latencies) 4096) (eqb g.places (most g)) (sizes e).0).1

  pub share_low : right_sizes g ≡ true → g.asked.share ≤ 1000
  share_low e = leb-true g.asked.share 1000 (sizes e).1

  comes : (h : Option Choice) → Comes (cleared_by g h) (on_choice g h)
  unfolding cleared_by cleared_under on_choice
  comes None = refl
  comes (Some choice) = go (right_sizes g) (low_latencies g.latencies) (leb (length g.trace) longest) refl refl
    where
      go : (a b c : Bool) → right_sizes g ≡ a → leb (length g.trace) longest ≡ c
          → Comes (cond a (cond b (cond c (Ok choice) (Err Fault.LongTrace)) (Err Fault.HighLatency)) (Err Fault.WrongLength))
          (cond a
          (cond b (cond c (on_read g choice (read_of choice (most g) g.trace) (read_of choice (most g) g.trace).stop) (stopped Fault.LongTrace nowhere)) (stopped Fault.HighLatency nowhere))
          (stopped Fault.WrongLength nowhere))
      go false b c d e = refl
      go true false c d e = refl
      go true true false d e = refl
      go true true true d e = record { is = refl; short = leb-true (length g.trace) longest e; share = share_low d }

  cleared_comes : (x : Result Choice Fault) → x ≡ clearance g → Comes x (reach g)
  unfolding clearance reach
  cleared_comes x e = rw e (comes (heard g.asked))

  pub cleared_refused : {x : Result Choice Fault} (fault : Fault) → x ≡ clearance g → x ≡ Err fault → {site : Site} → site ≡ nowhere
      → reach g ≡ stopped fault site
  cleared_refused {x} fault e r s = rw s (rw r at (cleared_comes x e))

  pub cleared_reads : {x : Result Choice Fault} (choice : Choice) → x ≡ clearance g → x ≡ Ok choice → Reads choice (reach g)
  cleared_reads {x} choice e r = rw r at (cleared_comes x e)
