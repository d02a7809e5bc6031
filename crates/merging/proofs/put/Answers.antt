use native.Mathlib.Omega.{arith}
use Rattle.merging.proofs.Calls.{put_short, put_joined}
use Rattle.merging.proofs.put.Goals as goal

pub returns-then-room-written : goal.returns-then-room-written
returns-then-room-written c = let c₅ = c in
    let (a, b) = c₅.requires in
    put_short a b c₅.args.room.now (omega (arith, c.if-room-written.true)) c.nowhere.ensures

pub returns : goal.returns
returns c = let c₄ = c in
    let c₁₀ = c₄ in
    let (a, b) = c₁₀.requires in
    put_joined a b c₁₀.args.room.now (omega (arith, c₄.if-room-written.false)) c₄.weave.ensures
