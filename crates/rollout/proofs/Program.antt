-- What is said, by what the arguments ask for; and that what the system told leaves one thing to say.
use Rattle.std.specs.Prelude.{Option, Result, Some, None, Ok, Err, is_some}
use Prim.Native.Nat.{ℕ}
use mathlib.Core.Path.{◌≡◌, refl, sym, ◌∙◌}
use mathlib.Core.Bool.{true}
use mathlib.Core.List.{List}
use Rattle.report.specs.Said.{Spoken}
use Rattle.report.specs.declared.Said.{Said}
use Rattle.files.specs.Told.{ByFiles}
use Rattle.filed.specs.Filed.{on_files}
use Rattle.named.specs.declared.Span.{Span}
use Rattle.flags.specs.Plan.{Meant, is_given}
use Rattle.flags.specs.Spans.{value_in, request_in, plan_in, Planned}
use Rattle.flags.specs.declared.Wishes.{Wishes}
use Rattle.complaint.specs.Complaint.{complaint_of, Complained}
use Rattle.rollout.specs.Program.{shown_of, ShownBy}
use Rattle.flags.specs.declared.Lack.{Lack}

module _ (line : List ℕ) {meant : Meant} {plan : Result Wishes Lack} (planned : Planned line meant plan) {room after : List ℕ} {n : ℕ} where
  pub complains : {lack : Lack} → plan ≡ Err lack → Complained line plan room n after → ShownBy meant room n after
  unfolding shown_of plan_in
  complains {lack} e c =
      rw (← planned.is, e) (record { trace = None; table = None; stored = true; put = rw (e, same lack) at c.put; counts = c.counts })
    where
      same : (lack : Lack) → complaint_of (plan_in line (Err lack)) ≡ shown_of (plan_in line (Err lack)) None None true
      same (Lack.Bad word) = refl
      same (Lack.Missing name) = refl

  pub says : {wishes : Wishes} {said : Said} → plan ≡ Ok wishes → ByFiles (on_files wishes.asked (is_some wishes.out)) said
      → Spoken said room n after → ShownBy meant room n after
  unfolding shown_of plan_in request_in is_given value_in
  says {wishes} e by s =
      rw (← planned.is, e)
      (record {
        trace = by.first;
        table = by.second;
        stored = by.rest.stored;
        put = rw (wanted wishes.out, ← by.rest.says) s.put;
        counts = s.counts;
      })
    where
      wanted : (out : Option Span) → is_given (value_in line out) ≡ is_some out
      wanted None = refl
      wanted (Some span) = refl

-- ---- one answer

-- whoever is told the same shows the same
pub one_shown : {meant : Meant} {room a b : List ℕ} {n m : ℕ} (x : ShownBy meant room n a) (y : ShownBy meant room m b) → x.trace ≡ y.trace
    → x.table ≡ y.table → x.stored ≡ y.stored → (n ≡ m) × (a ≡ b)
one_shown {n = n} {m = m} x y t l s =
    let same : n ≡ m = x.put.ends ∙ rw (t, l, s) (sym y.put.ends) in
    (same, x.put.holds ∙ rw (t, l, s, same) (sym y.put.holds))
