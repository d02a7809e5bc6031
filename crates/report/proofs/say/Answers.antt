use mathlib.Core.Path.{refl}
use Rattle.paper.specs.Text.{bytes_of}
use Rattle.report.specs.Said.{said_shown}
use Rattle.report.proofs.Outcome.{answered, line}
use Rattle.report.proofs.say.Goals as goal

pub returns-in-Answered : goal.returns-in-Answered
returns-in-Answered c = answered c.in-Answered.is c.report.ensures

pub returns-in-CannotRead : goal.returns-in-CannotRead
unfolding said_shown bytes_of
returns-in-CannotRead c = line (rw c.in-CannotRead.is refl) c.put_word.ensures

pub returns-in-CannotWrite : goal.returns-in-CannotWrite
unfolding said_shown bytes_of
returns-in-CannotWrite c = line (rw c.in-CannotWrite.is refl) c.put_word-in-CannotWrite.ensures

pub returns-in-TooMany : goal.returns-in-TooMany
unfolding said_shown bytes_of
returns-in-TooMany c = line (rw c.in-TooMany.is refl) c.put_word-in-TooMany.ensures
