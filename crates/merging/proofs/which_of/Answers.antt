use mathlib.Core.Path.{sym, ap}
use Rattle.paper.specs.Merging.{which_of}
use Rattle.merging.proofs.which_of.Goals as goal

pub returns-in-Neither : goal.returns-in-Neither
unfolding which_of
returns-in-Neither c = ap which_of (sym c.in-Neither.is)

pub returns-in-First : goal.returns-in-First
unfolding which_of
returns-in-First c = ap which_of (sym c.in-First.is)

pub returns-in-Second : goal.returns-in-Second
unfolding which_of
returns-in-Second c = ap which_of (sym c.in-Second.is)
