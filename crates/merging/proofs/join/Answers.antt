use Rattle.std.proofs.lemmas.Result.{err_from_is_err_and}
use Rattle.merging.proofs.Calls.{left, join_unheard, join_unfit, join_counted, join_apart}
use Rattle.merging.proofs.join.Goals as goal

pub put-requires : goal.put-requires
put-requires c = join_counted _ _ c.choice_of.ensures _ _ c.args.room.now _ c.in_ok-choice.ensures.ok_part c.read.ensures _ _ c.in_ok-a.was

pub returns-in_err-choice : goal.returns-in_err-choice
returns-in_err-choice c =
    rw (left _ c.from_residual.ensures.1 c.in_err-choice.ensures.ok_part c.in_err-choice.ensures.value)
    (join_unheard _ _ c.choice_of.ensures _ _ _ c.in_err-choice.ensures.ok_part c.nowhere.ensures)

pub returns-in_err-a : goal.returns-in_err-a
returns-in_err-a c =
    let out = err_from_is_err_and c.from_residual-in_err-a.result c.from_residual-in_err-a.ensures.1 in
    rw (out.1, out.2) (join_unfit _ _ c.choice_of.ensures _ _ _ _ c.in_ok-choice.ensures.ok_part c.read.ensures _ c.in_err-a.was)

pub returns : goal.returns
returns c = join_apart _ _ c.choice_of.ensures _ _ _ _ c.in_ok-choice.ensures.ok_part c.read.ensures _ _ c.in_ok-a.was c.put.ensures
