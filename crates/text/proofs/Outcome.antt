-- The statement of `make` leaves one outcome.
use Prim.Native.Nat.{ℕ}
use mathlib.Core.Path.{◌≡◌, sym, ◌∙◌}
use mathlib.Core.List.{List}
use Rattle.text.specs.Text.{Made, MadeInto}

pub one_made : {text before : List ℕ} {r q : Made} {a b : List ℕ} → MadeInto text before r a → MadeInto text before q b → (r ≡ q) × (a ≡ b)
one_made p q =
    let e = p.answer ∙ sym q.answer in
    (e, p.holds ∙ rw e (sym q.holds))
