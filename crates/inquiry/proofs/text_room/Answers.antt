use Prim.Native.Nat.{ℕ}
use lib.ListN.{length-replicate}
use Rattle.inquiry.proofs.text_room.Goals as goal

pub returns : goal.returns
returns c = length-replicate {A = ℕ} 524544 0
