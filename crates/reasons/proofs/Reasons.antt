-- The whole text, where there is a room for it; and that there is one answer.
use Prim.Native.Nat.{ℕ, ◌/◌, ◌≤◌, ◌<◌}
use mathlib.Core.Path.{◌≡◌, refl, sym, ◌∙◌}
use mathlib.Core.Bool.{Bool, true, false}
use mathlib.Core.List.{List}
use native.Mathlib.Omega.{arith}
use lib.ListN.{length}
use lib.Dec.{ltb}
use borrow.Author.Tests.{ltb-true, ltb-false}
use Rattle.report.specs.Put.{Short}
use Rattle.report.proofs.Puts.{counted}
use Rattle.report.proofs.Outcome.{one_put}
use Rattle.reasons.specs.Reasons.{ReasonsInto}

module _ {text : List ℕ} {records : ℕ} {room : List ℕ} where
  pub misfits : length room / 256 < records → ReasonsInto text records room 0 room
  misfits h = record { there = λ fits. absurd (omega arith); misfit = λ short. (refl, refl); counts = (omega arith, refl) }

  pub told : {most end : ℕ} {after : List ℕ} → records ≤ length room / 256 → Short most room 0 text end after → ReasonsInto text records room end after
  told h p = record { there = λ fits. p.put; misfit = λ short. absurd (omega arith); counts = counted p.put }

  pub one_answer : {r q : ℕ} {a b : List ℕ} → ReasonsInto text records room r a → ReasonsInto text records room q b → (r ≡ q) × (a ≡ b)
  one_answer {r} {q} {a} {b} x y = by (ltb (length room / 256) records) refl
    where
      by : (t : Bool) → ltb (length room / 256) records ≡ t → (r ≡ q) × (a ≡ b)
      by true e = let s = x.misfit (ltb-true _ _ e) in let t = y.misfit (ltb-true _ _ e) in (s.0 ∙ sym t.0, s.1 ∙ sym t.1)
      by false e = one_put (x.there (ltb-false _ _ e)) (y.there (ltb-false _ _ e))
