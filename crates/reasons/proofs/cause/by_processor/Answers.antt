use borrow.Author.Rules.{rules}
use native.Mathlib.Omega.{arith}
use mathlib.Core.Path.{◌≡◌}
use mir.Syntax.{w64}
use mir.Val.{to_z, of_z}
use Rattle.reasons.proofs.Causes.{nothing_kept, gap_kept}
use Rattle.reasons.proofs.cause.by_processor.Goals as goal

pub returns-then-kept-eq0 : goal.returns-then-kept-eq0
returns-then-kept-eq0 c = nothing_kept _ _ _ (omega (arith, c.if-kept-eq0.true))

pub returns : goal.returns
returns c = let s = c.args in
    let earlier : to_z w64 (of_z w64 s.earlier.original) ≡ s.earlier.original = search rules in
    let own : to_z w64 (of_z w64 s.own.original) ≡ s.own.original = search rules in
    gap_kept _ s.earlier s.own c.if-kept-eq0.false earlier own c.apart-gap.ensures
