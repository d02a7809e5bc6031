use Rattle.paper.specs.Forms.{times_quoted, numbers_quoted}
use Rattle.field.specs.Cursor.{read_as}
use Rattle.field.proofs.read_as.Goals as goal

pub returns-in-Whole : goal.returns-in-Whole
unfolding read_as
returns-in-Whole c = (cc)

pub returns-in-Time : goal.returns-in-Time
unfolding read_as
returns-in-Time c = (cc)

pub returns-in-TimesQuoted : goal.returns-in-TimesQuoted
unfolding read_as times_quoted
returns-in-TimesQuoted c = rw c.in-TimesQuoted.is c.read_text.ensures

pub returns-in-NumbersQuoted : goal.returns-in-NumbersQuoted
unfolding read_as numbers_quoted
returns-in-NumbersQuoted c = rw c.in-NumbersQuoted.is c.read_text-in-NumbersQuoted.ensures
