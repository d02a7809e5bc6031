-- The length by sign and size is the time's, and where there is no size there is nothing to write.
use mathlib.Core.Path.{sym, ◌∙◌}
use borrow.Author.Rules.{rules}
use Rattle.forms.proofs.Tests.{held_is}
use Rattle.shown.proofs.Puts.{time_length, no_length}
use Rattle.shown.proofs.shown_length.Goals as goal

pub signed_length-requires : goal.signed_length-requires
signed_length-requires c = let h = held_is (sym c.in-Some.is ∙ c.size_of.ensures) in
    search rules

pub returns : goal.returns
returns c = c.signed_length.ensures ∙ time_length c.ranges.time _ (sym c.in-Some.is ∙ c.size_of.ensures)

pub returns-in_default : goal.returns-in_default
returns-in_default c = no_length c.ranges.time (sym c.in_default.is ∙ c.size_of.ensures)
