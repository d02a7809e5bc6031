use Rattle.tables.proofs.Program.{many, unnamed, named}
use Rattle.tables.proofs.performed.Goals as goal

pub returns-then-count-gt3 : goal.returns-then-count-gt3
returns-then-count-gt3 g c = many c.if-count-gt3.true

pub returns-then-count-lt2 : goal.returns-then-count-lt2
returns-then-count-lt2 g c = unnamed c.if-count-gt3.false c.if-count-lt2.true

pub returns : goal.returns
returns g c = named c.if-count-gt3.false c.if-count-lt2.false c.read_text.ensures
