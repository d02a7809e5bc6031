-- A text, and the byte behind it.
use Rattle.std.proofs.lemmas.Bool.Decides.{Decides-eqb}
use Rattle.std.proofs.lemmas.Slice.Eq.{slice_eq-Decides}
use Rattle.quick.specs.Words.{Inside, FieldAt}
use Rattle.quick.proofs.Stops.{stopped_here, text_here}
use Rattle.quick.proofs.number.quoted.Goals as goal

pub stopped-requires : goal.stopped-requires
unfolding Inside
stopped-requires c = c.requires

pub returns-then-eq : goal.returns-then-eq
returns-then-eq c = rw c.stopped.ensures (stopped_here _ _ _ _ _ _ c.requires (text_here _ _ _ ((slice_eq-Decides Decides-eqb _ _ _ c.eq.ensures).0 c.if-eq.true)))

pub returns-else-eq : goal.returns-else-eq
unfolding FieldAt
returns-else-eq c = tt
