-- each arm names its data.
use borrow.Author.Rules.{rules}
use Rattle.store.specs.Layout.{values_code}
use Rattle.store.proofs.numbers.values_code.Goals as goal

pub returns-in-Three : goal.returns-in-Three
unfolding values_code
returns-in-Three c = rw c.in-Three.is

pub returns-in-Others : goal.returns-in-Others
unfolding values_code
returns-in-Others c = rw c.in-Others.is
