-- A line added behind others.
use Rattle.std.specs.Prelude.{ℕ, ◌+◌, ◌≤◌, ◌<◌, ◌≡◌, List, length}
use Rattle.report.specs.Put.{Put}

-- the statement of `add`: where the room does not reach, nothing is touched
pub record Added (room : List ℕ) (at : ℕ) (line : List ℕ) (end : ℕ) (after : List ℕ) : Type 0 where
  pub there : at + length line ≤ length room → Put room at line end after
  pub beyond : length room < at + length line → (end ≡ at) × (after ≡ room)
