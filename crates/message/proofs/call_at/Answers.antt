-- Each way out is a way of `stop_at`.
use mathlib.Core.Path.{◌∙◌, ap}
use Rattle.paper.specs.Matching.{length_sent}
use Rattle.message.proofs.Calls.{calls_other, calls_no_send, calls_long_receive, calls_nothing}
use Rattle.message.proofs.call_at.Goals as goal

pub returns-in_default : goal.returns-in_default
returns-in_default c = calls_other _ _ _ c.requires.0 c.role_at.ensures c.in_default.not-Receive

pub returns-then-sends-s : goal.returns-then-sends-s
returns-then-sends-s c = calls_no_send _ _ _ c.requires.0 c.role_at.ensures _ c.in-Receive.is c.args.sends.now c.requires.1 c.if-sends-s.true c.site_at.ensures

pub returns-then-sent-received : goal.returns-then-sent-received
returns-then-sent-received c = let sent = c.length_sent-sent in
    calls_long_receive _ _ _ c.requires.0 c.role_at.ensures _ c.in-Receive.is c.args.sends.now c.requires.1
    sent.result c.if-sends-s.false (sent.ensures ∙ ap length_sent c.role_at-2.ensures) c.if-sent-received.true c.site_at-then-sent-received.ensures

pub returns : goal.returns
returns c = let sent = c.length_sent-sent in
    calls_nothing _ _ _ c.requires.0 c.role_at.ensures _ c.in-Receive.is c.args.sends.now c.requires.1
    sent.result c.if-sends-s.false (sent.ensures ∙ ap length_sent c.role_at-2.ensures) c.if-sent-received.false
