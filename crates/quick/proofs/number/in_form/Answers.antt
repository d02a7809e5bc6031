-- A number, a time or a quoted descriptor.
use Rattle.paper.specs.Forms.{times_quoted, numbers_quoted}
use Rattle.field.specs.Cursor.{read_as}
use Rattle.quick.proofs.Stops.{wider}
use borrow.Author.Rules.{rules}
use Rattle.quick.proofs.number.in_form.Goals as goal

pub returns-in-Whole : goal.returns-in-Whole
unfolding read_as
returns-in-Whole c = rw c.in-Whole.is (wider _ _ _ _ _ _ _ (search rules) c.whole.ensures)

pub returns-in-Time : goal.returns-in-Time
unfolding read_as
returns-in-Time c = rw c.in-Time.is c.time.ensures

pub returns-in-TimesQuoted : goal.returns-in-TimesQuoted
unfolding read_as times_quoted
returns-in-TimesQuoted c = rw c.in-TimesQuoted.is (wider _ _ _ _ _ _ _ (search rules) c.quoted.ensures)

pub returns-in-NumbersQuoted : goal.returns-in-NumbersQuoted
unfolding read_as numbers_quoted
returns-in-NumbersQuoted c = rw c.in-NumbersQuoted.is (wider _ _ _ _ _ _ _ (search rules) c.quoted-in-NumbersQuoted.ensures)
