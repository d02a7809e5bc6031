use mathlib.Core.Path.{◌≡◌, ◌∙◌}
use mir.Syntax.{w64}
use mir.Val.{to_z, of_z}
use borrow.Author.Rules.{rules}
use Rattle.steps.proofs.Laws.{exact_out, exact_kept, exact_lost}
use Rattle.steps.proofs.exact_at.Goals as goal
use Rattle.steps.proofs.exact_at.Goals.{else-at-times-via-then-at-times+else-kept, else-at-times-via-else-at-times}

pub returns-then-kept : goal.returns-then-kept
returns-then-kept c =
    let time : to_z w64 (of_z w64 c.time_at.result) ≡ c.time_at.result = search rules in
    exact_kept _ _ _ _ _ c.if-at-times.true (time ∙ c.time_at.ensures) (search rules) c.kept.ensures c.if-kept.true

pub returns-else-at-times : goal.returns-else-at-times
returns-else-at-times c =
    elim c.else-at-times.branch [
      | else-at-times-via-then-at-times+else-kept w ↦
          let time : to_z w64 (of_z w64 w.time_at.result) ≡ w.time_at.result = search rules in
          exact_lost _ _ _ _ _ w.if-at-times.true (time ∙ w.time_at.ensures) (search rules) w.kept.ensures w.if-kept.false
      | else-at-times-via-else-at-times w ↦ exact_out _ _ _ _ _ w.if-at-times.false
    ]
