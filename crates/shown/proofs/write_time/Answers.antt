-- What was put by sign and size is the time's, and where there is no size there is no time.
use mathlib.Core.Path.{sym, ◌∙◌}
use borrow.Author.Rules.{rules}
use Rattle.forms.proofs.Tests.{held_is}
use Rattle.shown.proofs.Puts.{time_stored, no_time}
use Rattle.shown.proofs.write_time.Goals as goal

pub put_signed-requires : goal.put_signed-requires
put_signed-requires c = let h = held_is (sym c.in-Some.is ∙ c.size_of.ensures) in
    search rules

pub returns : goal.returns
returns c = time_stored _ _ c.ranges.time _ (sym c.in-Some.is ∙ c.size_of.ensures) c.put_signed.ensures

pub returns-in_default : goal.returns-in_default
returns-in_default c = no_time _ _ c.ranges.time (sym c.in_default.is ∙ c.size_of.ensures)
