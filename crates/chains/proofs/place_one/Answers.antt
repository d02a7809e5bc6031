-- Only a receive has a send, which the search finds, and is put behind its bucket.
use Rattle.chains.proofs.Place.{place_other, place_found}
use Rattle.chains.proofs.place_one.Goals as goal

pub returns-in_default : goal.returns-in_default
returns-in_default c = place_other _ _ _ _ _ _ _ c.requires.0 c.requires.1 c.side_at.ensures c.in_default.not-Receives

pub returns : goal.returns
returns c = place_found _ _ _ _ _ _ _ c.requires.0 c.requires.1 c.side_at.ensures c.in-Receives.is c.bucket_of-b.ensures.is c.send_behind.ensures
