-- What the merging leaves for the program: what it came to, and a room that has as many bytes as it says.
use Rattle.std.specs.Prelude.{ℕ, ◌≡◌, List, Result}
use Rattle.io.specs.Counts.{IsPrefixLen}
use Rattle.paper.specs.Merging.{merged_of}
use Rattle.gather.specs.Program.{joint_of}
use Rattle.paper.specs.declared.Unmerged.{Unmerged}
use Rattle.paper.specs.declared.Joined.{Joined}

pub record JoinedInto (choice : ℕ) (first second : List ℕ) (joint : Result Joined Unmerged) (room : List ℕ) : Type 0 where
  pub is : joint ≡ joint_of choice first second
  pub counts : IsPrefixLen (merged_of joint).written room
