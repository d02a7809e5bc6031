-- A text put into a room at a place: the other bytes stay.
use Rattle.std.specs.Prelude.{ℕ, ◌+◌, ◌≤◌, ◌≡◌, List, ◌++◌, length, take, drop}

pub record Put (room : List ℕ) (at : ℕ) (text : List ℕ) (end : ℕ) (after : List ℕ) : Type 0 where
  pub ends : end ≡ at + length text
  pub fits : end ≤ length room
  pub holds : after ≡ take at room ++ (text ++ drop end room)

-- the same of a text of at most so many bytes
pub record Short (most : ℕ) (room : List ℕ) (at : ℕ) (text : List ℕ) (end : ℕ) (after : List ℕ) : Type 0 where
  pub put : Put room at text end after
  pub short : end ≤ at + most
