use Rattle.std.proofs.Common.{ap, option_copied}
use Rattle.gather.proofs.Program.{first_unread, second_unread, both_read}
use Rattle.gather.proofs.traces.of_both.Goals as goal

pub returns-in_default : goal.returns-in_default
returns-in_default g c = first_unread _ _ _ (ap option_copied c.in_default.is)

pub returns-in_default-second : goal.returns-in_default-second
returns-in_default-second g c = second_unread _ _ _ (ap option_copied c.in-Some.is) (ap option_copied c.in_default-second.is)

pub returns : goal.returns
returns g c = both_read _ _ _ (ap option_copied c.in-Some.is) (ap option_copied c.in-Some-second.is) c.concluded.ensures
