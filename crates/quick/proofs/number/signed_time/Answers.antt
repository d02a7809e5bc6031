-- A minus and the size behind it, or the size.
use Rattle.paper.specs.Forms.{time_size, time_of}
use Rattle.forms.proofs.Times.{time_range}
use Rattle.quick.proofs.Signs.{within, behind_minus, behind_none}
use borrow.Author.Rules.{rules}
use Rattle.quick.proofs.number.signed_time.Goals as goal

pub with_sign-requires : goal.with_sign-requires
with_sign-requires c = within time_size time_range _ _ _ _ c.time_size.ensures

pub returns-then-s-at-eq45 : goal.returns-then-s-at-eq45
unfolding time_of
returns-then-s-at-eq45 c = rw c.with_sign.ensures (behind_minus time_size _ _ _ _ (search rules) c.if-s-at-eq45.true c.time_size.ensures)

pub with_sign-requires-2 : goal.with_sign-requires-2
with_sign-requires-2 c = within time_size time_range _ _ _ _ c.time_size-2.ensures

pub returns : goal.returns
unfolding time_of
returns c = rw c.with_sign-2.ensures (behind_none time_size _ _ _ _ c.if-s-at-eq45.false c.time_size-2.ensures)
