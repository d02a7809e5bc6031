-- What stands at a cursor: a word that reads well, and the byte behind it.
use Rattle.std.specs.Prelude.{ℕ, zero, suc, ◌+◌, ◌≤◌, ◌<◌, ◌≡◌, List, ◌∷◌, ◌++◌, Bool, true, false, cond, length, get_or, drop, ℤ, pos, negsuc, eqb, Option, Some, None}

-- from `at` to `end` stands a word of at most so many bytes that reads as v
pub record Word {A B : Type 0} (reading : List ℕ → B) (good : A → B) (most : ℕ) (s : List ℕ) (at : ℕ) (v : A) (end : ℕ) : Type 0 where
  pub word : List ℕ
  pub is : drop at s ≡ word ++ drop end s
  pub reads : reading word ≡ good v
  pub long : end ≡ at + length word
  pub few : length word ≤ most

unfoldable pub SizeAt : (List ℕ → Option ℕ) → ℕ → List ℕ → ℕ → Option (ℕ × ℕ) → Type 0
SizeAt size most s at (Some (v, end)) = Word size Some most s at v end
SizeAt size most s at None = Unit

unfoldable pub NumberAt : (List ℕ → Option ℤ) → ℕ → List ℕ → ℕ → Option (ℤ × ℕ) → Type 0
NumberAt form most s at (Some (v, end)) = Word form Some most s at v end
NumberAt form most s at None = Unit

-- the same with the byte `stop` behind it, and then what is at `next`
pub record Stands (form : List ℕ → Option ℤ) (s : List ℕ) (at : ℕ) (v : ℤ) (stop next : ℕ) : Type 0 where
  pub word : List ℕ
  pub is : drop at s ≡ word ++ (stop ∷ drop next s)
  pub reads : form word ≡ Some v
  pub near : next ≤ length s

unfoldable pub FieldAt : (List ℕ → Option ℤ) → ℕ → List ℕ → ℕ → ℕ → Option (ℤ × ℕ) → Type 0
FieldAt form most s at stop (Some (v, next)) = Stands form s at v stop next × (next ≤ at + most)
FieldAt form most s at stop None = Unit

-- ---- the steps from a size to a field

-- where a size starts
unfoldable pub start_at : Bool → ℕ → ℕ
start_at true at = at + 1
start_at false at = at

-- a size that fits on either side of zero
unfoldable pub Within : Option (ℕ × ℕ) → Type 0
Within (Some (v, end)) = v ≤ 999999999999999
Within None = Unit

-- a sign, and the size behind it
unfoldable pub signed_by : Bool → Option (ℕ × ℕ) → Option (ℤ × ℕ)
signed_by minus None = None
signed_by true (Some (zero, end)) = None
signed_by true (Some (suc n, end)) = Some (negsuc n, end)
signed_by false (Some (n, end)) = Some (pos n, end)

-- a byte stands behind the number
unfoldable pub Inside : List ℕ → Option (ℤ × ℕ) → Type 0
Inside s (Some (v, end)) = end < length s
Inside s None = Unit

-- a number, if that byte is the one that is due
unfoldable pub stopped_by : List ℕ → ℕ → Option (ℤ × ℕ) → Option (ℤ × ℕ)
stopped_by s stop (Some (v, end)) = cond (eqb (get_or s end 0) stop) (Some (v, end + 1)) None
stopped_by s stop None = None
