-- A point and six digits.
use Rattle.std.specs.Prelude.{ℕ, ◌+◌, ◌-◌, ◌*◌, ◌≤◌, ◌<◌, ◌≡◌, List, ◌∷◌, ◌++◌, length, drop, Option, Some, None}
use Rattle.paper.specs.Forms.{digits_from}

pub record Six (a b c d e f : ℕ) : Type 0 where
  pub a_low : 48 ≤ a
  pub a_high : a ≤ 57
  pub b_low : 48 ≤ b
  pub b_high : b ≤ 57
  pub c_low : 48 ≤ c
  pub c_high : c ≤ 57
  pub d_low : 48 ≤ d
  pub d_high : d ≤ 57
  pub e_low : 48 ≤ e
  pub e_high : e ≤ 57
  pub f_low : 48 ≤ f
  pub f_high : f ≤ 57

pub record Point (point a b c d e f : ℕ) : Type 0 where
  pub is_point : point ≡ 46
  pub digits : Six a b c d e f

-- the sum of the six digits' places
unfoldable pub six_of : ℕ → ℕ → ℕ → ℕ → ℕ → ℕ → ℕ
six_of a b c d e f = a * 100000 + b * 10000 + c * 1000 + d * 100 + e * 10 + f - 5333328

-- at `at` stand a point and six digits, which add v behind any seconds
pub record Micros (s : List ℕ) (at v : ℕ) : Type 0 where
  pub word : List ℕ
  pub is : drop at s ≡ 46 ∷ (word ++ drop (at + 7) s)
  pub long : length word ≡ 6
  pub reads : (x : ℕ) → digits_from x word ≡ Some (x * 1000000 + v)
  pub below : v < 1000000

unfoldable pub MicrosAt : List ℕ → ℕ → Option ℕ → Type 0
MicrosAt s at (Some v) = Micros s at v
MicrosAt s at None = Unit
