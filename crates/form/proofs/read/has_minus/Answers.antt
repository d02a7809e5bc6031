use Prim.Native.Nat.{ℕ}
use mathlib.Core.Path.{◌≡◌, refl, ◌∙◌}
use mathlib.Core.Bool.{and-true}
use mathlib.Core.List.{List, [], ◌∷◌}
use lib.Dec.{eqb}
use Rattle.std.proofs.Common.{arith}
use Rattle.std.proofs.lemmas.Bool.Decides.{nat_tests}
use Rattle.std.specs.List.{starts_with}
use Rattle.paper.specs.Forms.{has_minus}
use Rattle.form.proofs.read.has_minus.Goals as goal

turned : (b : ℕ) → eqb 45 b ≡ eqb b 45
turned b = grind (arith, nat_tests)

minus_first : (s : List ℕ) → starts_with eqb s (45 ∷ []) ≡ has_minus s
unfolding has_minus
minus_first [] = refl
minus_first (b ∷ s) = and-true (eqb 45 b) ∙ turned b

pub returns : goal.returns
returns c = c.starts_with.ensures.value ∙ minus_first _
