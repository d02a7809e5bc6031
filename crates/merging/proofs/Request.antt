-- The sixth change request, of this crate's call `merge`: its statement is an equation with the definition `merge`, and what the request says it
-- says of that. The words, with its sentences, stand in the specs of `merges`.
use Rattle.merges.specs.Request.{Merges}
use Rattle.merges.proofs.Request as merges

pub merging_request : Merges
merging_request = merges.merging_request
