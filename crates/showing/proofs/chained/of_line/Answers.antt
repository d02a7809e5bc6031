use Rattle.paper.specs.Filling.{query}
use Rattle.showing.proofs.Telling.{in_list, taken, line_told}
use Rattle.showing.proofs.chained.of_line.Goals as goal

pub slice_bounds-list-end : goal.slice_bounds-list-end
slice_bounds-list-end c = in_list (query c.args.trace.now c.args.latencies.now c.args.asked) c.args.line.now _ c.args.times.now
    c.place_on-at.ensures c.zeros-list.ensures c.chain-filled.ensures

pub slice_bounds-told-end : goal.slice_bounds-told-end
slice_bounds-told-end c = taken (query c.args.trace.now c.args.latencies.now c.args.asked) c.args.line.now _ c.args.times.now
    c.place_on-at.ensures c.zeros-list.ensures c.chain-filled.ensures

pub returns : goal.returns
returns c = line_told (query c.args.trace.now c.args.latencies.now c.args.asked) c.args.line.now _ c.args.times.now
    c.place_on-at.ensures c.zeros-list.ensures c.chain-filled.ensures
    c.told.ensures
