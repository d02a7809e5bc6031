-- A number of data with which there is a descriptor, and which a listed record may have.
use Rattle.std.specs.Prelude.{ℕ, ◌≤◌, ◌<◌}

pub record Few (n : ℕ) : Type 0 where
  pub some : 0 < n
  pub most : n ≤ 16
