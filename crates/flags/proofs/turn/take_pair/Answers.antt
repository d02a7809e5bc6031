-- A law of a pair for each way out.
use Rattle.std.proofs.Common.{ap, ◌∙◌}
use Rattle.named.specs.Values.{name_of}
use Rattle.flags.proofs.Pairs.{unknown, refused, goes_on_lem}
use Rattle.flags.proofs.turn.take_pair.Goals as goal

pub returns-in-Some : goal.returns-in-Some
returns-in-Some c =
    let pre = c.requires in
    goes_on_lem _ _ _ _ (c.name_of.ensures ∙ ap name_of c.cut.ensures) c.in-Some.is (cc) c.if-accepts.true pre.0 pre.1.1 c.with_span.ensures

pub returns-in_default : goal.returns-in_default
returns-in_default c = refused _ _ _ _ (c.name_of.ensures ∙ ap name_of c.cut.ensures) c.in-Some.is (cc) c.if-accepts.false

pub returns-in_default-2 : goal.returns-in_default-2
returns-in_default-2 c = unknown _ _ _ _ (c.name_of.ensures ∙ ap name_of c.cut.ensures) c.in_default.is
