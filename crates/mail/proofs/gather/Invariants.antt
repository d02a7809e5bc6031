use Rattle.mail.proofs.Gathering.{Going}
use Rattle.mail.proofs.gather.Given as goal

abbrev pub invariant-loop-receive : goal.invariant-loop-receive
invariant-loop-receive l = Going l.sends l.initial.numbers l.receive l.count l.numbers
