use Rattle.merging.proofs.Steps.{line_fits}
use Rattle.merging.proofs.weave.put_next.Goals as goal

pub put-requires : goal.put-requires
put-requires c = let c₃ = c in
    let c₇ = c₃ in
    let (first, second, fits) = c₇.requires in
    rw c₃.step-line.ensures (line_fits c₇.args.room.now first second fits)
