-- each arm names its role.
use borrow.Author.Rules.{rules}
use Rattle.store.specs.Layout.{role_code}
use Rattle.store.proofs.numbers.role_code.Goals as goal

pub returns-in-Neither : goal.returns-in-Neither
unfolding role_code
returns-in-Neither c = rw c.in-Neither.is

pub returns-in-Send : goal.returns-in-Send
unfolding role_code
returns-in-Send c = rw c.in-Send.is

pub returns-in-Receive : goal.returns-in-Receive
unfolding role_code
returns-in-Receive c = rw c.in-Receive.is
