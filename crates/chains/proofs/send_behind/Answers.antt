-- Its three steps find the send.
use Rattle.chains.proofs.Found.{may_start, found}
use Rattle.chains.proofs.send_behind.Goals as goal

pub next_send-s-requires : goal.next_send-s-requires
next_send-s-requires c = rw c.start_from-start.ensures (may_start _ c.args.sends.now _ c.args.key c.args.head c.args.from c.requires _ c.prior_receive-prior.ensures)

pub returns : goal.returns
returns c = found _ c.args.sends.now _ c.args.key c.args.head c.args.from c.requires _ _ c.prior_receive-prior.ensures
    (rw (← c.start_from-start.ensures) c.next_send-s.ensures)
