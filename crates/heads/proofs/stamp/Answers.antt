use Rattle.heads.proofs.Stamps.{stamp_good, stamp_none}
use borrow.Author.Rules.{rules}
use Rattle.heads.proofs.stamp.Goals as goal

pub returns-in-Some : goal.returns-in-Some
returns-in-Some c = stamp_good _ _ c.third_field-at.ensures _ c.value_at.ensures _ _ c.in-Some.is (search rules)

pub returns-in-None : goal.returns-in-None
returns-in-None c = stamp_none _ _ c.third_field-at.ensures _ c.value_at.ensures c.in-None.is
