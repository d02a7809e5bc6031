use mathlib.Core.Path.{refl}
use Rattle.deliveries.specs.Deliveries.{message_in}
use Rattle.deliveries.proofs.single.message_in.Goals as goal

pub returns-in-Neither : goal.returns-in-Neither
unfolding message_in
returns-in-Neither c = rw c.in-Neither.is refl

pub returns-in-Send : goal.returns-in-Send
unfolding message_in
returns-in-Send c = rw c.in-Send.is refl

pub returns-in-Receive : goal.returns-in-Receive
unfolding message_in
returns-in-Receive c = rw c.in-Receive.is refl
