-- From one function to the next: what the slices hold when the steps are laid out, and afterwards.
use Prim.Native.Nat.{ℕ}
use mathlib.Core.Path.{◌≡◌, ◌∙◌}
use mathlib.Core.List.{List}
use lib.ListN.{length}
use lib.IntN.{ℤ}
use Rattle.store.specs.Layout.{entries_in}
use Rattle.waits.specs.Tables.{originals_of, latencies_of}
use Rattle.steps.specs.Tables.{exact_table, processor_steps, end_ranks}
use Rattle.steps.proofs.Before.{steps_few}
use Rattle.chain.specs.Call.{Slices, Stepped}

-- the tables, as the functions make them one after the other
pub stepped : (store table : List ℕ) (share : ℕ) (times originals : List ℤ) {before sends latency ranks : List ℕ}
    → Slices (length times) originals before sends latency ranks
    → {originals₁ : List ℤ} {latency₁ before₁ sends₁ ranks₁ : List ℕ}
    → originals₁ ≡ originals_of (entries_in store (length originals)) → latency₁ ≡ latencies_of table (entries_in store (length latency))
    → before₁ ≡ processor_steps store times share before → sends₁ ≡ exact_table times latency₁ (length times) sends
    → ranks₁ ≡ end_ranks originals₁ times (length times) ranks
    → Stepped share table (entries_in store (length times)) times sends ranks before₁ sends₁ ranks₁
stepped store table share times originals {before} all a b c d e =
    record {
      by_processor = λ few. c ∙ (rw all.all_before at (steps_few store times share before (rw all.all_before all.few) few));
      by_send = d ∙ rw (b, all.all_latency);
      at_original = e ∙ rw (a, all.all_originals);
    }
