-- What a function leaves that asks the system for files: its answer, by what the system told it.
use Rattle.std.specs.Prelude.{ℕ, ◌≡◌, Bool, List, Option}

-- by whether a file could be written
pub record ByStored {A : Type 0} (by : Bool → A) (answer : A) : Type 0 where
  pub stored : Bool
  pub says : answer ≡ by stored

-- by what two files held, and that
pub record ByFiles {A : Type 0} (by : Option (List ℕ) → Option (List ℕ) → Bool → A) (answer : A) : Type 0 where
  pub first : Option (List ℕ)
  pub second : Option (List ℕ)
  pub rest : ByStored (by first second) answer
