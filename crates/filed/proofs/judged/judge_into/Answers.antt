-- What the file is given lies within the room: the written trace is never longer than the room that was lent for it.
use borrow.Author.Rules.{rules}
use Rattle.filed.proofs.Lent.{judges_into}
use Rattle.filed.proofs.judged.judge_into.Goals as goal

pub returns : goal.returns
returns c = judges_into _ _ _ _ _ _ _
    c.judge.ensures
    c.blanks-times.ensures
    (search rules)
    c.judge.auto.room
