use mathlib.Core.Path.{refl}
use Rattle.paper.specs.Text.{bytes_of}
use Rattle.report.specs.Told.{told_shown}
use Rattle.report.proofs.Outcome.{tells, in_common}
use Rattle.report.proofs.tell.Goals as goal

pub returns-in-Written : goal.returns-in-Written
unfolding told_shown bytes_of
returns-in-Written c = tells (rw c.in-Written.is refl) c.put_word.ensures

pub returns-in-BadLine : goal.returns-in-BadLine
unfolding told_shown bytes_of
returns-in-BadLine c = tells (rw c.in-BadLine.is refl) c.put_numbered.ensures.put

pub returns-in-Uncovered : goal.returns-in-Uncovered
unfolding told_shown
returns-in-Uncovered c = tells (rw c.in-Uncovered.is refl) c.put_pair.ensures

pub returns-in-TooLong : goal.returns-in-TooLong
unfolding told_shown bytes_of
returns-in-TooLong c = tells (rw c.in-TooLong.is refl) c.put_word-in-TooLong.ensures

pub returns-in-CannotRead : goal.returns-in-CannotRead
unfolding told_shown
returns-in-CannotRead c = in_common (rw c.in-CannotRead.is refl) c.say.ensures

pub returns-in-CannotWrite : goal.returns-in-CannotWrite
unfolding told_shown
returns-in-CannotWrite c = in_common (rw c.in-CannotWrite.is refl) c.say-in-CannotWrite.ensures

pub returns-in-TooMany : goal.returns-in-TooMany
unfolding told_shown
returns-in-TooMany c = in_common (rw c.in-TooMany.is refl) c.say-in-TooMany.ensures
