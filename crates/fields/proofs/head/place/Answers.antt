use borrow.Author.Rules.{rules}
use Rattle.paper.specs.Line.{place_of}
use Rattle.field.specs.Cursor.{read_as}
use Rattle.fields.specs.Cursor.{begun_of}
use Rattle.field.proofs.Cursors.{got, not_got, counted, counted_near, not_counted, without}
use Rattle.fields.proofs.Heads.{made}
use Rattle.fields.proofs.head.place.Goals as goal

pub returns-in_default : goal.returns-in_default
unfolding begun_of place_of read_as
returns-in_default c = without _ (rw (not_got _ _ _ c.value_at.ensures c.in_default.is))

pub returns-in_default-value_at : goal.returns-in_default-value_at
unfolding begun_of place_of read_as
returns-in_default-value_at c =
    let processor = got _ _ _ c.value_at.ensures _ _ c.in-Some.is in
    without _ (rw (processor, not_got _ _ _ c.value_at-2.ensures c.in_default-value_at.is))

pub returns-in_default-count_at : goal.returns-in_default-count_at
unfolding begun_of place_of read_as
returns-in_default-count_at c =
    let processor = got _ _ _ c.value_at.ensures _ _ c.in-Some.is in
    let process = got _ _ _ c.value_at-2.ensures _ _ c.in-Some-value_at.is in
    without _ (rw (processor, process, not_counted _ _ _ c.count_at.ensures c.in_default-count_at.is))

pub returns : goal.returns
unfolding begun_of place_of read_as
returns c =
    let processor = got _ _ _ c.value_at.ensures _ _ c.in-Some.is in
    let process = got _ _ _ c.value_at-2.ensures _ _ c.in-Some-value_at.is in
    let count = counted _ _ _ c.count_at.ensures _ _ c.in-Some-count_at.is in
    record {
      is = rw (processor, process, count) (made _ _ (search rules) (search rules) (search rules) (search rules) (search rules));
      near = counted_near _ _ _ c.count_at.ensures _ _ c.in-Some-count_at.is;
    }
