-- "each receive is matched to one send"
use Rattle.std.specs.Prelude.{Ok}
use Prim.Native.Nat.{ℕ, ◌<◌}
use mathlib.Core.Path.{◌≡◌}
use mathlib.Core.List.{List}
use lib.ListN.{length}
use Rattle.paper.specs.Matching.{matched_of}
use Rattle.paper.specs.declared.Entry.{Entry}
use Rattle.paper.specs.declared.Message.{Message}
use Rattle.paper.specs.declared.Role.TheVariants.{Receive}
use Rattle.matching.specs.Belongs.{role}
use Rattle.matching.proofs.Belong.{belongs}
use Rattle.matching.proofs.Calls.{every_receive, no_more_received}
use Rattle.demands.specs.Demand2.{Sent}

pub sent : (es : List Entry) → matched_of es ≡ Ok tt → (k : ℕ) → k < length es → (m : Message) → role es k ≡ Receive m → Sent es k
sent es h k l m r =
    let (j, e, low) = every_receive es h k l m r in
    let b = belongs es k j e in
    record { send = j; is = e; belongs = b; length = no_more_received es h k j l e b }
