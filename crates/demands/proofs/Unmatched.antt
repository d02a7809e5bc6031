-- Where no message matched, no time moves: the originals are in order as they are read.
use Rattle.std.specs.Prelude.{Some}
use Prim.Native.Nat.{ℕ, ◌<◌}
use native.Mathlib.Omega.{arith}
use mathlib.Core.Path.{◌≡◌}
use mathlib.Core.Bool.{true}
use mathlib.Core.List.{List}
use lib.ListN.{length}
use lib.IntN.{ℤ, pos, negsuc}
use lib.Signed.{◌≤ℤ◌, le_z_yes, ≤ℤ_refl}
use lib.Dec.{le→leb}
use Rattle.paper.specs.Clock.{limit, settled, settle, listed}
use Rattle.paper.specs.Matching.{send_of, is_receive, matched_count}
use Rattle.paper.specs.Answer.{Inputs, given, most}
use Rattle.paper.specs.declared.Choice.{Choice}
use Rattle.paper.specs.declared.Entry.{Entry}
use Rattle.matching.proofs.Belong.{role_at, belongs}
use Rattle.matching.proofs.Count.{count, count_all, count_less}
use Rattle.reading.specs.Tidy.{InRange}
use Rattle.demands.specs.Steps.{entries, waits, Matched, original}
use Rattle.demands.specs.Demand3.{Allowed}
use Rattle.demands.proofs.InOrder.{originals_range, originals_order}
use Rattle.demands.proofs.Allowed.{still}

range_limit : (t : ℤ) → InRange t → t ≤ℤ limit
range_limit (pos n) h = le_z_yes (le→leb n 999999999999999 h)
range_limit (negsuc n) h = le_z_yes tt

no_receive : (es : List Entry) → matched_count es ≡ 0 → (j k : ℕ) → k < length es → send_of es k ≡ Some j → ⊥
unfolding matched_count is_receive count
no_receive es none-matched j k l e =
    let is : is_receive (role_at es k) ≡ true = rw (belongs es k j e).receives in
    omega (arith, count_all (λ f. is_receive f.body.role) es, count_less (λ n. is_receive (role_at es n)) k (length es) l is)

module _ (i : Inputs) (choice : Choice) (m : Matched i choice) (none-matched : matched_count (entries i choice) ≡ 0) where
  originals_allowed : Allowed i.latencies (entries i choice) (original (entries i choice))
  originals_allowed =
      record {
        format = λ k l. range_limit (original (entries i choice) k) (originals_range choice (most (given i)) i.trace m.compared.levelled.read.whole k l);
        above = λ k l. ≤ℤ_refl (original (entries i choice) k);
        order = originals_order choice (most (given i)) i.trace m.compared.levelled.read.whole;
        clock = λ j k l e. absurd (no_receive (entries i choice) none-matched j k l e);
      }

  pub originals_settle : settle (waits i choice) ≡ settled 0 (listed (length (entries i choice)) (original (entries i choice)))
  originals_settle =
      still i.asked.share i.latencies (entries i choice) m.compared.levelled.read.begun.sizes.2 originals_allowed
