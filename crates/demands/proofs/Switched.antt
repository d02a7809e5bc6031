-- "A further number .. switches the comparison", and nothing but that: what a call reaches with it on is 19 or what it reaches with it off.
use Rattle.std.specs.Prelude.{Option, Result, Some, None, Ok, Err}
use Prim.Native.Nat.{ℕ, ◌≤◌}
use native.Mathlib.Omega.{arith}
use mathlib.Core.Path.{◌≡◌, refl, ap, ◌∙◌}
use mathlib.Core.Logic.{◌⊎◌, inl, inr}
use mathlib.Core.Bool.{Bool, true, false, cond, ◌&&◌}
use mathlib.Core.List.{List}
use lib.ListN.{length}
use lib.Dec.{leb}
use borrow.Author.Tests.{le-leb, leb-true}
use Rattle.paper.specs.Numbers.{number_of}
use Rattle.paper.specs.Columns.{nowhere}
use Rattle.paper.specs.Levels.{levels_of}
use Rattle.paper.specs.Statistics.{statistics_of}
use Rattle.paper.specs.Answer.{Given, Inputs, given, most, longest, choice_of, heard, right_sizes, low_latencies, Reached, stopped, found, on_matched, on_statistics, on_levels, on_read, on_choice, reach, refused, accepted, written, on_written, conclude, judge}
use Rattle.paper.specs.Reading.{Reading, read_of}
use Rattle.paper.specs.declared.Asked.{Asked}
use Rattle.paper.specs.declared.Choice.{Choice}
use Rattle.paper.specs.declared.Entry.{Entry}
use Rattle.paper.specs.declared.Fault.{Fault}
use Rattle.paper.specs.declared.Site.{Site}
use Rattle.paper.specs.declared.Refusal.{Refusal}
use Rattle.forms.proofs.Tests.{never}
use Rattle.demands.specs.Parts.{number, site}
use Rattle.demands.specs.Switched.{uncompared, switched_off, Switched}
use Rattle.demands.specs.Table.{When}
use Rattle.demands.proofs.Named.{same_levels}
use Rattle.demands.proofs.Refusals.{refused_exactly}
use Rattle.demands.proofs.StatisticsRows.{statistics_row}

-- ---- what does not look at the switch

pub heard_off : (a : Asked) → a.statistics ≤ 1 → heard (uncompared a) ≡ heard a
unfolding heard
heard_off a low = rw (le-leb a.statistics 1 low)

-- a choice is heard where the switch is 0 or 1
pub heard_low : (a : Asked) {choice : Choice} → heard a ≡ Some choice → a.statistics ≤ 1
unfolding heard
heard_low a {choice} e = go (leb a.levels 1) (leb a.statistics 1) refl e
  where
    go : (t u : Bool) → leb a.statistics 1 ≡ u → cond (t && u) (choice_of a.choice) None ≡ Some choice → a.statistics ≤ 1
    go t true u e = leb-true _ _ u
    go true false u e = never (cc)
    go false false u e = never (cc)

-- with it off nothing is compared
pub none_compared : (a : Asked) (trace : List ℕ) (es : List Entry) → statistics_of (uncompared a) trace es ≡ Ok tt
unfolding statistics_of
none_compared a trace es = refl

pub levels_off : (a : Asked) (es : List Entry) → levels_of (uncompared a) es ≡ levels_of a es
levels_off a es = same_levels (uncompared a) a (record { levels = refl; picl = refl; user = refl; trace = refl }) es

-- ---- how far a call reaches

abbrev off_given : Given → Given
off_given g = record { trace = g.trace; latencies = g.latencies; asked = uncompared g.asked; places = g.places }

-- it is 19, or the same
abbrev NineteenOr : Reached → Reached → Type 0
NineteenOr on off = ((s : Site) × (on ≡ stopped Fault.OtherStatistics s)) ⊎ (on ≡ off)

module _ (g : Given) (choice : Choice) (r : Reading) where
  matched_off : (s : Result Unit Refusal) → on_matched g choice r s ≡ on_matched (off_given g) choice r s
  unfolding on_matched
  matched_off (Ok tt) = refl
  matched_off (Err refusal) = refl

  statistics_off : (s : Result Unit Refusal) → statistics_of g.asked g.trace r.entries ≡ s
      → NineteenOr (on_statistics g choice r s) (on_statistics (off_given g) choice r (statistics_of (uncompared g.asked) g.trace r.entries))
  unfolding on_statistics statistics_of
  statistics_off (Ok tt) e = inr (matched_off _)
  statistics_off (Err refusal) e =
      inl (refusal.site, ap (λ (f : Fault). stopped f refusal.site) ((statistics_row g.asked g.trace r.entries refusal.fault refusal.site).0 e).0)

  on_levels_off : (s : Result Unit Refusal) → NineteenOr (on_levels g choice r s) (on_levels (off_given g) choice r s)
  unfolding on_levels
  on_levels_off (Ok tt) = statistics_off _ refl
  on_levels_off (Err refusal) = inr refl

  read_off : (s : Result Unit Refusal) → NineteenOr (on_read g choice r s) (on_read (off_given g) choice r s)
  unfolding on_read
  read_off (Ok tt) = rw (levels_off g.asked r.entries) (on_levels_off _)
  read_off (Err refusal) = inr refl

-- the earlier checks are the same, whatever comes behind them
behind : (b : Bool) (x y bad : Reached) → NineteenOr x y → NineteenOr (cond b x bad) (cond b y bad)
behind true x y bad n = n
behind false x y bad n = inr refl

choice_off : (g : Given) (o : Option Choice) → NineteenOr (on_choice g o) (on_choice (off_given g) o)
unfolding on_choice right_sizes most
choice_off g None = inr refl
choice_off g (Some choice) =
    let reading = read_of choice (most g) g.trace in
    behind (right_sizes g) _ _ (stopped Fault.WrongLength nowhere)
    (behind (low_latencies g.latencies) _ _ (stopped Fault.HighLatency nowhere)
    (behind (leb (length g.trace) longest) _ _ (stopped Fault.LongTrace nowhere) (read_off g choice reading reading.stop)))

reach_off : (g : Given) → g.asked.statistics ≤ 1 → NineteenOr (reach g) (reach (off_given g))
unfolding reach
reach_off g low = rw (heard_off g.asked low) (choice_off g _)

-- ---- what it comes to

conclude_off : (i : Inputs) (r : Reached) → conclude i r ≡ conclude (switched_off i) r
unfolding conclude refused on_written accepted written
conclude_off i (stopped fault site) = refl
conclude_off i (found f) = refl

pub nothing_else : (i : Inputs) → i.asked.statistics ≤ 1 → (number i ≡ 19) ⊎ (judge i ≡ judge (switched_off i))
unfolding judge conclude refused number_of
nothing_else i low = go (reach_off (given i) low)
  where
    go : NineteenOr (reach (given i)) (reach (given (switched_off i))) → (number i ≡ 19) ⊎ (judge i ≡ judge (switched_off i))
    go (inl (s, e)) = inl (ap (λ (r : Reached). (conclude i r).answer.number) e)
    go (inr e) = inr (ap (conclude i) e ∙ conclude_off i (reach (given (switched_off i))))

-- ---- the switch

never_off : (i : Inputs) → i.asked.statistics ≡ 0 → ¬ (number i ≡ 19)
unfolding When number_of
never_off i off e =
    let (o, whole) = (refused_exactly i Fault.OtherStatistics (site i)).0 (e, refl) in
    let on = o.differs.on in
    omega arith

otherwise_one : (i : Inputs) → ¬ (i.asked.statistics ≡ 0) → ¬ (i.asked.statistics ≡ 1) → number i ≡ 1
unfolding When number_of
otherwise_one i off on = ((refused_exactly i Fault.BadChoice nowhere).1 (inr (inr (off, on)), refl)).0

pub switched : Switched
switched = record { off = never_off; on = λ i on. nothing_else i (omega arith); otherwise = otherwise_one }
