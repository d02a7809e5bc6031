-- The statement of `complaint` leaves one outcome.
use Rattle.std.specs.Prelude.{Result}
use Prim.Native.Nat.{ℕ}
use mathlib.Core.Path.{◌≡◌, sym, ◌∙◌}
use mathlib.Core.List.{List}
use Rattle.complaint.specs.Complaint.{Complained}
use Rattle.flags.specs.declared.Lack.{Lack}
use Rattle.flags.specs.declared.Wishes.{Wishes}

pub one_complaint : {line room : List ℕ} {plan : Result Wishes Lack} {r q : ℕ} {a b : List ℕ} → Complained line plan room r a → Complained line plan room q b → (r ≡ q) × (a ≡ b)
one_complaint x y =
    let e = x.put.ends ∙ sym y.put.ends in
    (e, x.put.holds ∙ rw e (sym y.put.holds))
