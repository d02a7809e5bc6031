use borrow.Author.Rules.{rules}
use Rattle.field.specs.Cursor.{read_as}
use Rattle.fields.specs.Cursor.{begun_of}
use Rattle.field.proofs.Cursors.{got, not_got, without, instead}
use Rattle.fields.proofs.Heads.{bad_kind, bad_event, bad_time, good_three}
use Rattle.fields.proofs.head.six.Goals as goal

pub returns-in_default : goal.returns-in_default
unfolding begun_of read_as
returns-in_default c = without _ (bad_kind _ (not_got _ _ _ c.value_at.ensures c.in_default.is))

pub returns-in_default-value_at : goal.returns-in_default-value_at
unfolding begun_of read_as
returns-in_default-value_at c =
    let kind = got _ _ _ c.value_at.ensures _ _ c.in-Some.is in
    without _ (bad_event _ _ _ kind (not_got _ _ _ c.value_at-2.ensures c.in_default-value_at.is))

pub returns-in_default-value_at-2 : goal.returns-in_default-value_at-2
unfolding begun_of read_as
returns-in_default-value_at-2 c =
    let kind = got _ _ _ c.value_at.ensures _ _ c.in-Some.is in
    let event = got _ _ _ c.value_at-2.ensures _ _ c.in-Some-value_at.is in
    without _ (bad_time _ _ _ kind _ _ event (not_got _ _ _ c.value_at-3.ensures c.in_default-value_at-2.is))

pub returns : goal.returns
unfolding read_as
returns c =
    let kind = got _ _ _ c.value_at.ensures _ _ c.in-Some.is in
    let event = got _ _ _ c.value_at-2.ensures _ _ c.in-Some-value_at.is in
    let time = got _ _ _ c.value_at-3.ensures _ _ c.in-Some-value_at-2.is in
    instead c.place.ensures (good_three _ _ _ kind _ _ event _ _ time (search rules) (search rules) (search rules))
