use mathlib.Core.Path.{sym}
use lib.Seq.{length-take-le}
use Rattle.chain.proofs.Concluding.{within}
use Rattle.showing.proofs.Concluding.{few_taken, refused_told, never_told, messages_told, chain_told}
use Rattle.showing.proofs.found.concluded.Goals as goal

pub slice_bounds-put_messages-end : goal.slice_bounds-put_messages-end
slice_bounds-put_messages-end c = sym (length-take-le _ _ (within c.requires.0 c.in-Ok.is).with_sends)

pub slice_bounds-put_messages-end-in-Messages : goal.slice_bounds-put_messages-end-in-Messages
slice_bounds-put_messages-end-in-Messages c = sym (length-take-le _ _ (within c.requires.0 c.in-Ok.is).with_times)

pub slice_bounds-of_line-end : goal.slice_bounds-of_line-end
slice_bounds-of_line-end c = sym (length-take-le _ _ (within c.requires.0 c.in-Ok.is).with_times)

pub of_line-requires : goal.of_line-requires
of_line-requires c = (few_taken (within c.requires.0 c.in-Ok.is), c.requires.1)

pub returns-in-Messages : goal.returns-in-Messages
returns-in-Messages c = let times = c.in-Ok.is in
    messages_told _ c.args.asked c.args.trace.now c.args.latencies.now c.args.line.now c.args.reached c.args.store.now
    c.args.sends.now c.args.new.now c.args.room.now _ times (within c.requires.0 times) c.requires.1
    c.in-Messages.is c.put_messages.ensures

pub returns-in-Reasons : goal.returns-in-Reasons
returns-in-Reasons c = let times = c.in-Ok.is in
    chain_told _ c.args.asked c.args.trace.now c.args.latencies.now c.args.line.now c.args.reached c.args.store.now
    c.args.sends.now c.args.new.now c.args.room.now _ times (within c.requires.0 times) c.requires.1
    c.in-Reasons.is c.of_line.ensures

pub returns-in-Err-Refused : goal.returns-in-Err-Refused
returns-in-Err-Refused c = refused_told _ c.args.asked c.args.trace.now c.args.latencies.now c.args.line.now c.args.reached c.args.store.now
    c.args.sends.now c.args.new.now c.args.room.now _ c.in-Err-Refused.is (rw c.in-Err-Refused.is at c.in-Err-Refused.field-0-is)
    c.refused.ensures c.say_into.ensures

pub returns-in-Err-Misfit : goal.returns-in-Err-Misfit
returns-in-Err-Misfit c = never_told _ c.args.asked c.args.trace.now c.args.latencies.now c.args.line.now c.args.reached c.args.store.now
    c.args.sends.now c.args.new.now c.args.room.now _ _ c.in-Err-Misfit.is (rw c.in-Err-Misfit.is at c.in-Err-Misfit.field-0-is)
