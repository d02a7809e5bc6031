-- The seventh change request, of this crate's call `chain`, and of the one for messages in `ffi`: their statements are equations with the
-- definitions, and what the request says it says of these. The words, with its sentences, stand in the specs of `causes`.
use Rattle.causes.specs.Request.{Shows}
use Rattle.causes.proofs.Request as causes

pub shows : Shows
shows = causes.shows
