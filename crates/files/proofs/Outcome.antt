-- What the system told leaves one answer: whoever is told the same says the same.
use Rattle.std.specs.Prelude.{Option}
use Prim.Native.Nat.{ℕ}
use mathlib.Core.Path.{◌≡◌, sym, ◌∙◌}
use mathlib.Core.Bool.{Bool}
use mathlib.Core.List.{List}
use Rattle.files.specs.Told.{ByStored, ByFiles}

module _ {A : Type 0} {a b : A} where
  pub one_stored : {by : Bool → A} (x : ByStored by a) (y : ByStored by b) → x.stored ≡ y.stored → a ≡ b
  one_stored x y e = x.says ∙ rw e (sym y.says)

  pub one_by_files : {by : Option (List ℕ) → Option (List ℕ) → Bool → A} (x : ByFiles by a) (y : ByFiles by b)
      → x.first ≡ y.first
      → x.second ≡ y.second
      → x.rest.stored ≡ y.rest.stored
      → a ≡ b
  one_by_files x y f s e = x.rest.says ∙ rw (f, s, e) (sym y.rest.says)
