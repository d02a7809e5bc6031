-- Any two answers that a statement of this crate allows are the same.
use Prim.Native.Nat.{ℕ, ◌+◌}
use mathlib.Core.Bool.{Bool, true, false}
use mathlib.Core.Path.{◌≡◌, refl, sym, ◌∙◌}
use mathlib.Core.List.{List}
use lib.ListN.{length}
use lib.Dec.{ltb}
use borrow.Author.Tests.{ltb-true, ltb-false}
use Rattle.report.proofs.Outcome.{one_put}
use Rattle.lines.specs.Adding.{Added}
use Rattle.lines.specs.Lines.{LineInto}

pub one_line : {text room : List ℕ} {r q : ℕ} {a b : List ℕ} → LineInto text room r a → LineInto text room q b → (r ≡ q) × (a ≡ b)
one_line x y = one_put x.put y.put

pub one_added : {room : List ℕ} {at : ℕ} {line : List ℕ} {r q : ℕ} {a b : List ℕ} → Added room at line r a → Added room at line q b → (r ≡ q) × (a ≡ b)
one_added {room} {at} {line} {r} {q} {a} {b} x y = by (ltb (length room) (at + length line)) refl
  where
    by : (t : Bool) → ltb (length room) (at + length line) ≡ t → (r ≡ q) × (a ≡ b)
    by true e = let s = x.beyond (ltb-true _ _ e) in let t = y.beyond (ltb-true _ _ e) in (s.0 ∙ sym t.0, s.1 ∙ sym t.1)
    by false e = one_put (x.there (ltb-false _ _ e)) (y.there (ltb-false _ _ e))
