-- A number is one of a list as the library's search of the list tells it.
use mathlib.Core.Path.{◌≡◌, refl}
use mathlib.Core.List.{List, [], ◌∷◌}
use lib.IntN.{ℤ, pos, negsuc}
use Rattle.std.proofs.Common.{arith}
use Rattle.std.proofs.lemmas.Bool.Decides.{nat_tests}
use Rattle.std.specs.List.{list_any}
use Rattle.std.specs.Ordering.{int_eq}
use Rattle.paper.specs.Tests.{eq_z, one_of}

turned : (a z : ℤ) → int_eq a z ≡ eq_z z a
turned (pos a) (pos b) = grind (arith, nat_tests)
turned (pos a) (negsuc b) = refl
turned (negsuc a) (pos b) = refl
turned (negsuc a) (negsuc b) = grind (arith, nat_tests)

held : (l : List ℤ) (z : ℤ) → list_any (λ a. int_eq a z) l ≡ one_of l z
unfolding one_of
held [] z = refl
held (a ∷ l) z = rw (turned a z, held l z)

pub contained : (l : List ℤ) {u z : ℤ} → u ≡ z → list_any (λ a. int_eq a u) l ≡ one_of l z
contained l {u} {z} e = rw e (held l z)
