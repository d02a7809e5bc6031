-- What a test of a signed number says of it, for the functions that ask such tests.
use Rattle.std.proofs.lemmas.Bool.Decides.{nat_tests}
use Rattle.signed.proofs.Equal.{bits_same}

pub ruleset signed_tests = (bits_same, nat_tests)
