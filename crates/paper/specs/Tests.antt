-- Tests on numbers that the paper's words need.
use Rattle.std.specs.Prelude.{ℕ, Bool, true, false, ◌&&◌, ◌||◌, List, [], ◌∷◌, ℤ, pos, negsuc, neg_ℤ, leb, eqb}
use Rattle.std.specs.Int.Signed.{le_z}

abbrev pub eq_z : ℤ → ℤ → Bool
eq_z (pos a) (pos b) = eqb a b
eq_z (pos a) (negsuc b) = false
eq_z (negsuc a) (pos b) = false
eq_z (negsuc a) (negsuc b) = eqb a b

-- "0 to n"
abbrev pub up_to : ℕ → ℤ → Bool
up_to n z = le_z (pos 0) z && le_z z (pos n)

-- "-n"
abbrev pub minus : ℕ → ℤ
minus n = neg_ℤ (pos n)

-- z is one of these numbers
unfoldable pub one_of : List ℤ → ℤ → Bool
one_of [] z = false
one_of (a ∷ more) z = eq_z z a || one_of more z

-- "each at most n"
unfoldable pub all_up_to : ℕ → List ℕ → Bool
all_up_to n [] = true
all_up_to n (x ∷ xs) = leb x n && all_up_to n xs
