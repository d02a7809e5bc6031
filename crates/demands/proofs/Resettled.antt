-- Times that are allowed, taken as the originals of the same records, are allowed again, and so they settle in no round: whatever share of
-- their own gaps is to be kept, for they keep all of them.
use Rattle.std.specs.Prelude.{Some}
use Prim.Native.Nat.{ℕ, ◌≤◌, ◌<◌}
use native.Mathlib.Omega.{arith}
use mathlib.Core.Path.{◌≡◌, sym, ap, ◌∙◌}
use mathlib.Core.List.{List}
use lib.ListN.{length}
use lib.IntN.{ℤ}
use lib.Signed.{≤ℤ_refl}
use Rattle.paper.specs.Clock.{time_at, settle, settled}
use Rattle.paper.specs.Matching.{send_of, waits_of}
use Rattle.paper.specs.declared.Entry.{Entry}
use Rattle.matching.specs.Belongs.{processor}
use Rattle.matching.proofs.Belong.{belongs}
use Rattle.matching.proofs.Times.{Alike, same_size, same_entry, same_send}
use Rattle.rounds.proofs.Lists.{listed_same, listed_times}
use Rattle.demands.specs.Steps.{original}
use Rattle.demands.specs.Demand3.{Allowed}
use Rattle.demands.proofs.Allowed.{still}
use Rattle.demands.proofs.Reread.{with_times, times_alike, times_there}

module _ (table : List ℕ) (es : List Entry) (ts : List ℤ) (n : length ts ≡ length es) (allowed : Allowed table es (time_at ts)) where
  abbrev fs : List Entry
  fs = with_times es ts

  alike : Alike fs es
  alike = times_alike es ts

  pub there : (k : ℕ) → k < length fs → original fs k ≡ time_at ts k
  there k l = times_there es ts n k (rw (← same_size fs es alike) l)

  same_place : (k : ℕ) → processor fs k ≡ processor es k
  same_place k = ap (λ (e : Entry). e.body.processor) (same_entry fs es alike k)

  written_allowed : Allowed table fs (original fs)
  written_allowed =
      record {
        format = λ k l. rw (there k l) (allowed.format k (rw (← same_size fs es alike) l));
        above = λ k l. ≤ℤ_refl (original fs k);
        order = λ j k b l e.
            rw (there j (omega arith), there k l)
            (allowed.order j k b (rw (← same_size fs es alike) l) (sym (same_place j) ∙ e ∙ same_place k));
        clock = λ j k l e.
            let sent : send_of es k ≡ Some j = sym (same_send fs es alike k) ∙ e in
            let inside : j < length fs = rw (same_size fs es alike) (belongs es k j sent).within in
            rw (there j inside, there k l, same_place j, same_place k) (allowed.clock j k (rw (← same_size fs es alike) l) sent);
      }

  pub written_settle : (share : ℕ) → share ≤ 1000 → settle (waits_of share table fs) ≡ settled 0 ts
  written_settle share low =
      still share table fs low written_allowed
      ∙ ap (settled 0) (listed_same (length fs) (original fs) (time_at ts) there ∙ rw (same_size fs es alike, ← n) (listed_times ts))
