use Rattle.lookup.proofs.Place.{on_line_lem, on_none}
use Rattle.lookup.proofs.place_on.Goals as goal

pub returns-in-Some : goal.returns-in-Some
returns-in-Some c = on_line_lem _ _ _ c.read_natural.ensures c.in-Some.is c.place_from.ensures

pub returns-in-None : goal.returns-in-None
returns-in-None c = on_none _ c.args.store.now _ c.read_natural.ensures c.in-None.is
