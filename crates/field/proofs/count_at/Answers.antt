use borrow.Author.Rules.{rules}
use mathlib.Core.Path.{sym, ◌∙◌}
use Rattle.field.specs.Cursor.{counted_of, read_as}
use Rattle.field.proofs.Cursors.{got, got_near, not_got, without}
use Rattle.field.proofs.Counts.{no_count, count_outside, count_good}
use Rattle.field.proofs.count_at.Goals as goal

pub returns-in_err-v : goal.returns-in_err-v
unfolding counted_of read_as
returns-in_err-v c = rw c.from_residual.ensures (without _ (no_count _ (not_got _ _ _ c.value_at.ensures c.in_err-v.was)))

pub returns-in_err-n : goal.returns-in_err-n
unfolding counted_of read_as
returns-in_err-n c = rw c.from_residual-in_err-n.ensures
    (without _ (count_outside _ _ (search rules) (got _ _ _ c.value_at.ensures _ _ c.in_ok-v.was) (sym c.up_to.ensures ∙ c.in_err-n.was)))

pub returns : goal.returns
unfolding counted_of read_as
returns c = let read = c.value_at.ensures in
    record {
      is = count_good _ _ _ (search rules) (got _ _ _ read _ _ c.in_ok-v.was) (sym c.up_to.ensures ∙ c.in_ok-n.was);
      near = got_near _ _ _ read _ _ c.in_ok-v.was;
    }
