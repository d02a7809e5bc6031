-- The next time of a record: it waits for the record before it, then for its send.
use mathlib.Core.Path.{◌≡◌, ◌∙◌}
use native.Mathlib.Omega.{arith}
use mir.Syntax.{w64}
use mir.Val.{to_z, of_z}
use mir.Facts.{to_z-of_z}
use borrow.Author.Rules.{sfits_of}
use Rattle.paper.specs.Clock.{next, time_at}
use Rattle.engine.specs.Promise.{waits_of, widest}
use Rattle.engine.specs.Inner.{following}
use Rattle.forms.proofs.Bounded.{bounded_holds}
use Rattle.engine.proofs.Lengths.{gap_there}
use Rattle.engine.proofs.next_at.Goals as goal

pub gap_at-requires : goal.gap_at-requires
gap_at-requires c = gap_there c.requires.sized.gaps c.requires.i_in_bounds

pub after-own-requires-clause-weight_le_widest : goal.after-own-requires-clause-weight_le_widest
after-own-requires-clause-weight_le_widest c = rw c.gap_at.ensures (bounded_holds widest _ c.requires.sized.narrow _)

pub returns : goal.returns
unfolding following next waits_of
returns c =
    let own = time_at c.args.from.now c.args.i in
    let same : to_z w64 (of_z w64 own) ≡ own = to_z-of_z {w = w64} (sfits_of (omega arith)) in
    let a = rw (same, c.gap_at.ensures) at c.after-own.ensures in
    let b = rw (to_z-of_z (sfits_of c.after-own.type_inv), c.from.ensures) at c.after.ensures in
    rw (to_z-of_z (sfits_of c.after.type_inv)) (b ∙ rw a)
