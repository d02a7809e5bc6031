use mathlib.Core.Path.{◌∙◌}
use borrow.Author.Rules.{rules}
use Rattle.paper.specs.Line.{values_of, as_wholes}
use Rattle.field.specs.Cursor.{read_as}
use Rattle.field.proofs.Cursors.{got, not_got, past, inside}
use Rattle.values.proofs.Exits.{exit}
use Rattle.values.proofs.Values.{three_made}
use Rattle.values.proofs.three.Goals as goal

pub returns-in_err-a : goal.returns-in_err-a
unfolding as_wholes values_of read_as
returns-in_err-a c =
    exit _ c.from_residual.ensures.1 c.in_err-a.ensures.ok_part c.in_err-a.ensures.value ∙ rw (not_got _ _ _ c.value_at.ensures c.in_err-a.ensures.ok_part)

pub returns-in_err-b : goal.returns-in_err-b
unfolding as_wholes values_of read_as
returns-in_err-b c =
    let first = got _ _ _ c.value_at.ensures _ _ c.in_ok-a.ensures.ok_part in
    exit _ c.from_residual-in_err-b.ensures.1 c.in_err-b.ensures.ok_part c.in_err-b.ensures.value
    ∙ rw (first, not_got _ _ _ c.value_at-2.ensures c.in_err-b.ensures.ok_part)

pub returns-in_err-c : goal.returns-in_err-c
unfolding as_wholes values_of read_as
returns-in_err-c c =
    let first = got _ _ _ c.value_at.ensures _ _ c.in_ok-a.ensures.ok_part in
    let second = got _ _ _ c.value_at-2.ensures _ _ c.in_ok-b.ensures.ok_part in
    exit _ c.from_residual-in_err-c.ensures.1 c.in_err-c.ensures.ok_part c.in_err-c.ensures.value
    ∙ rw (first, second, not_got _ _ _ c.value_at-3.ensures c.in_err-c.ensures.ok_part)

pub returns-then-l-p3 : goal.returns-then-l-p3
unfolding as_wholes values_of read_as
returns-then-l-p3 c =
    let first = got _ _ _ c.value_at.ensures _ _ c.in_ok-a.ensures.ok_part in
    let second = got _ _ _ c.value_at-2.ensures _ _ c.in_ok-b.ensures.ok_part in
    let third = got _ _ _ c.value_at-3.ensures _ _ c.in_ok-c.ensures.ok_part in
    rw (first, second, third, past _ _ c.if-l-p3.true) (three_made (search rules) (search rules) (search rules))

pub returns-else-l-p3 : goal.returns-else-l-p3
unfolding as_wholes values_of read_as
returns-else-l-p3 c =
    let first = got _ _ _ c.value_at.ensures _ _ c.in_ok-a.ensures.ok_part in
    let second = got _ _ _ c.value_at-2.ensures _ _ c.in_ok-b.ensures.ok_part in
    let third = got _ _ _ c.value_at-3.ensures _ _ c.in_ok-c.ensures.ok_part in
    rw (first, second, third, inside _ _ c.if-l-p3.false)
