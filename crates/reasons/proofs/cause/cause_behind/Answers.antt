use borrow.Author.Rules.{rules}
use mathlib.Core.Path.{◌≡◌}
use mir.Syntax.{w64}
use mir.Val.{to_z, of_z}
use Rattle.reasons.proofs.Causes.{exactly_kept, not_kept}
use Rattle.reasons.proofs.cause.cause_behind.Goals as goal

pub returns-then-kept : goal.returns-then-kept
returns-then-kept c =
    let own = c.stamped_at-own.result.corrected in
    let earlier = c.stamped_at-earlier.result.corrected in
    let own_is : to_z w64 (of_z w64 own) ≡ own = search rules in
    let earlier_is : to_z w64 (of_z w64 earlier) ≡ earlier = search rules in
    exactly_kept _ c.args.times.now _ _ _ _ c.stamped_at-own.ensures c.stamped_at-earlier.ensures own_is earlier_is _ c.kept.ensures
    c.if-kept.true c.by_processor.ensures

pub returns : goal.returns
returns c =
    let own = c.stamped_at-own.result.corrected in
    let earlier = c.stamped_at-earlier.result.corrected in
    let own_is : to_z w64 (of_z w64 own) ≡ own = search rules in
    let earlier_is : to_z w64 (of_z w64 earlier) ≡ earlier = search rules in
    not_kept _ c.args.times.now _ _ _ _ c.stamped_at-own.ensures c.stamped_at-earlier.ensures own_is earlier_is _ c.kept.ensures
    c.if-kept.false
