use mathlib.Core.Path.{refl}
use native.Mathlib.Omega.{arith}
use Rattle.deliveries.proofs.Lines.{no_send, its_send}
use Rattle.deliveries.proofs.put_received.Goals as goal

pub returns-then-times-send : goal.returns-then-times-send
returns-then-times-send c = no_send _ _ c.args.sends.now c.args.i c.requires.1 refl c.if-times-send.true c.args.room.now c.args.at
    (omega (arith, c.requires.2))

pub returns : goal.returns
returns c = its_send _ _ c.args.sends.now c.args.i c.requires.1 refl c.if-times-send.false c.line_of-n.ensures
    c.blank-line.ensures c.requires.2
    c.add.ensures
