use Rattle.std.proofs.Common.{ap, option_copied}
use Rattle.tables.proofs.Program.{not_read, too_long, reads}
use Rattle.tables.proofs.made.of_text.Goals as goal

pub returns-in_default : goal.returns-in_default
returns-in_default g c = not_read (ap option_copied c.in_default.is)

pub returns-then-text-gt-LONGEST : goal.returns-then-text-gt-LONGEST
returns-then-text-gt-LONGEST g c = too_long _ (ap option_copied c.in-Some.is) c.if-text-gt-LONGEST.true

pub returns : goal.returns
returns g c = reads _ (ap option_copied c.in-Some.is) c.if-text-gt-LONGEST.false c.concluded.ensures
