use mathlib.Core.Path.{refl}
use Rattle.report.specs.Replied.{replied_shown}
use Rattle.report.proofs.Outcome.{replies, shared}
use Rattle.report.proofs.reply.Goals as goal

pub returns-in-Refused : goal.returns-in-Refused
unfolding replied_shown
returns-in-Refused c = replies (rw c.in-Refused.is refl) c.put_unmerged.ensures

pub returns-in-Merged : goal.returns-in-Merged
unfolding replied_shown
returns-in-Merged c = replies (rw c.in-Merged.is refl) c.put_merged.ensures

pub returns-in-CannotRead : goal.returns-in-CannotRead
unfolding replied_shown
returns-in-CannotRead c = shared (rw c.in-CannotRead.is refl) c.say.ensures

pub returns-in-CannotWrite : goal.returns-in-CannotWrite
unfolding replied_shown
returns-in-CannotWrite c = shared (rw c.in-CannotWrite.is refl) c.say-in-CannotWrite.ensures

pub returns-in-TooMany : goal.returns-in-TooMany
unfolding replied_shown
returns-in-TooMany c = shared (rw c.in-TooMany.is refl) c.say-in-TooMany.ensures
