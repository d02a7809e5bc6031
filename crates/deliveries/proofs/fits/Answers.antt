use Rattle.deliveries.proofs.Deliveries.{other_length, by_room}
use Rattle.deliveries.proofs.fits.Goals as goal

pub returns-then-times-sends : goal.returns-then-times-sends
returns-then-times-sends c = by_room _ _ _ c.if-times-sends.true

pub returns-else-times-sends : goal.returns-else-times-sends
returns-else-times-sends c = other_length _ _ _ c.if-times-sends.false
