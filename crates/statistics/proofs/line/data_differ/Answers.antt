-- The descriptor, and the pairs behind it.
use Rattle.std.proofs.Common.{◌∙◌, to_z-of_z}
use Rattle.field.proofs.Cursors.{got, not_got}
use Rattle.statistics.proofs.Pairs.{no_pairs, too_many_lem, no_quote, quote}
use Rattle.statistics.proofs.line.data_differ.Goals as goal
use Rattle.statistics.proofs.line.data_differ.Goals.{then-n-eq0-via-then-n-eq0, then-n-eq0-via-else-n-eq0+then-n-gt16}

pub returns-then-n-eq0 : goal.returns-then-n-eq0
returns-then-n-eq0 c =
    elim c.then-n-eq0.branch [
      | then-n-eq0-via-then-n-eq0 w ↦ no_pairs _ _ _ (to_z-of_z c.ranges.kind) _ _ w.if-n-eq0.true
      | then-n-eq0-via-else-n-eq0+then-n-gt16 w ↦ too_many_lem _ _ _ (to_z-of_z c.ranges.kind) _ _ w.if-n-gt16.true
    ]

pub returns-in_default : goal.returns-in_default
returns-in_default c = no_quote _ _ _ (to_z-of_z c.ranges.kind) _ c.quoted_form.ensures _ c.if-n-eq0.false c.if-n-gt16.false (not_got _ _ _ c.value_at.ensures c.in_default.is)

pub returns : goal.returns
returns c =
    c.pairs_differ.ensures
    ∙ quote _ _ _ (to_z-of_z c.ranges.kind) _ c.quoted_form.ensures _ c.if-n-eq0.false c.if-n-gt16.false c.told_form-form.ensures _ _ (got _ _ _ c.value_at.ensures _ _ c.in-Some.is)
