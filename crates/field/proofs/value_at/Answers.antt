use mathlib.Core.Path.{sym, ◌∙◌}
use borrow.Author.Rules.{rules}
use Rattle.field.specs.Cursor.{got_of}
use Rattle.field.proofs.Cursors.{none_here, bad_here, good_here, without}
use Rattle.field.proofs.value_at.Goals as goal

pub returns-then-l-at : goal.returns-then-l-at
unfolding got_of
returns-then-l-at c = without _ (none_here _ _ _ c.if-l-at.true)

pub returns-in_err-v : goal.returns-in_err-v
unfolding got_of
returns-in_err-v c = rw c.from_residual.ensures (without _ (bad_here _ _ _ c.if-l-at.false c.find-end.ensures.place
    _ (sym c.read_as.ensures ∙ c.in_err-v.was)))

pub returns : goal.returns
unfolding got_of
returns c = record {
  is =
      good_here _ _ _ c.if-l-at.false c.find-end.ensures.place
      _ (search rules) (sym c.read_as.ensures ∙ c.in_ok-v.was);
  near = search rules;
}
