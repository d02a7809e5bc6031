use Rattle.paper.specs.Text.{bytes_of}
use Rattle.lines.specs.Lines.{cause_shown}
use Rattle.lines.proofs.step.put_cause.Goals as goal

pub returns-in-Original : goal.returns-in-Original
unfolding cause_shown bytes_of
returns-in-Original c = rw c.in-Original.is c.put_word.ensures

pub returns-in-Before : goal.returns-in-Before
unfolding cause_shown bytes_of
returns-in-Before c = rw c.in-Before.is c.put_word-in-Before.ensures

pub returns-in-Kept : goal.returns-in-Kept
unfolding cause_shown
returns-in-Kept c = rw c.in-Kept.is c.put_kept.ensures

pub returns-in-Sent : goal.returns-in-Sent
unfolding cause_shown bytes_of
returns-in-Sent c = rw c.in-Sent.is c.put_numbered.ensures
