-- A line read where it stands, from its six fields and from what follows them.
use Rattle.std.specs.Prelude.{Option, Some, None, Ok}
use Prim.Native.Nat.{ℕ}
use mathlib.Core.Path.{◌≡◌, sym, ap, subst, ◌∙◌}
use mathlib.Core.List.{List}
use mathlib.Core.Bool.{Bool}
use lib.IntN.{ℤ}
use Rattle.paper.specs.Line.{head_of, six, begun, sorted, line_of, listed_line, unlisted, step_over, values_in}
use Rattle.paper.specs.declared.Choice.{Choice}
use Rattle.paper.specs.declared.Data.{Data}
use Rattle.paper.specs.declared.Head.{Head}
use Rattle.paper.specs.declared.Line.{Line}
use Rattle.paper.specs.declared.Standing.{Standing}
use Rattle.reading.specs.Places.{line_at}
use Rattle.reading.specs.Rests.{fields_from}
use Rattle.quick.specs.Lines.{Told, OpensAt, BeginsAt, DataAt, HoldsAt}
use Rattle.tail.specs.Ends.{EndsAt}
use Rattle.line.specs.Quick.{QuickAt, RestAt}
use Rattle.line.specs.Sorting.{standing_in}
use Rattle.line.proofs.Sorts.{end_good, stands}

-- ---- behind the six fields

pub listed_rest : (s : List ℕ) (ended : Bool) (at : ℕ) (h : Head) (r : Option (Data × ℕ)) {kind : ℤ} → HoldsAt s ended at kind h.count r → kind ≡ h.kind → (values : Data) (next : ℕ) → r ≡ Some (values, next)
    → (x : Line) → ((fields : Option (List ℕ)) → Ok values ≡ values_in h.kind h.count fields → x ≡ listed_line h fields) → RestAt (listed_line h) s ended at (Some (x, next))
unfolding HoldsAt DataAt RestAt
listed_rest s ended at h r t same values next e x so =
    let k = subst (DataAt (values_in h.kind h.count) s ended at) e (rw same at t) in record { is = so (fields_from s ended at) k.is; ends = k.ends; near = k.near }

pub over_rest : (choice : Choice) (s : List ℕ) (ended : Bool) (at : ℕ) (h : Head) (r : Option ℕ) → EndsAt s ended at h.count r → (next : ℕ) → r ≡ Some next
    → (x : Line) → x ≡ step_over choice h → RestAt (unlisted choice h) s ended at (Some (x, next))
unfolding EndsAt RestAt
over_rest choice s ended at h r t next e x so =
    let k = subst (EndsAt s ended at h.count) e t in
    record { is = so ∙ end_good choice h (fields_from s ended at) (sym k.is); ends = k.ends; near = k.near }

-- ---- the line

pub opened_six : (s : List ℕ) (at : ℕ) (r : Option (Head × Bool × ℕ)) → BeginsAt s at r → (h : Head) (ended : Bool) (next : ℕ) → r ≡ Some (h, ended, next)
    → Told (head_of (line_at s at)) (six h) s at ended next
unfolding BeginsAt OpensAt
opened_six s at r t h ended next e = subst (OpensAt (head_of (line_at s at)) s at) e t

module _ (choice : Choice) (s : List ℕ) (at : ℕ) (h : Head) (ended : Bool) (from : ℕ) (told : Told (head_of (line_at s at)) (six h) s at ended from)
    {kind event : ℤ} (same_kind : kind ≡ h.kind) (same-event : event ≡ h.event) (standing : Standing) (is : standing ≡ standing_in kind event) where
  pub quick_here : (there : Option (List ℕ) → Line) → ((fields : Option (List ℕ)) → there fields ≡ sorted choice h fields standing) → (r : Option (Line × ℕ)) → RestAt there s ended from r
      → QuickAt choice s at r
  unfolding RestAt QuickAt line_of
  quick_here there so (Some (x, next)) t =
      record {
        reads = t.is ∙ so _ ∙ stands choice h _ standing same_kind same-event is ∙ ap (begun choice) (sym told.reads);
        ends = sym (told.same ∙ t.ends);
        near = t.near told.near;
      }
  quick_here there so None t = tt
