-- Slices that fit have the messages matched, and where all match the times.
use mathlib.Core.Path.{sym}
use lib.Seq.{length-take-le}
use borrow.Author.Rules.{rules}
use Rattle.std.proofs.lemmas.Result.{err_from_is_err_and}
use Rattle.solve.proofs.Matches.{few_kept, tables, out_unmatched, out_rounds, out_unsettled}
use Rattle.solve.proofs.solve.Goals as goal

pub slice_bounds-settle_with-end : goal.slice_bounds-settle_with-end
slice_bounds-settle_with-end c = few_kept _ _ c.kept_places-kept.ensures

pub slice_bounds-settle_with-end-2 : goal.slice_bounds-settle_with-end-2
slice_bounds-settle_with-end-2 c = sym (length-take-le _ _ (few_kept _ _ c.kept_places-kept.ensures))

pub settle_with-requires : goal.settle_with-requires
settle_with-requires c = tables c.args.store.now c.args.times.now c.capacity.ensures c.args.sends.now c.args.before.now c.args.gap.now c.args.latency.now c.args.spare.now c.fit.ensures c.if-not-fit.false _ _ _ c.match_messages.ensures
    _ c.args.table.now _ _ c.in_ok-matched.was (search rules) c.kept_places-kept.ensures

pub returns-in_err-matched : goal.returns-in_err-matched
returns-in_err-matched c = let p = err_from_is_err_and c.from_residual.result c.from_residual.ensures.1 in
    rw (p.1, p.2) (out_unmatched c.args.store.now c.args.times.now c.capacity.ensures c.args.sends.now c.args.before.now c.args.gap.now c.args.latency.now c.args.spare.now c.fit.ensures c.if-not-fit.false _ _ _ c.match_messages.ensures _ _ _ c.in_err-matched.was _)

pub returns-in_err-rounds : goal.returns-in_err-rounds
returns-in_err-rounds c = let p = err_from_is_err_and c.from_residual-in_err-rounds.result c.from_residual-in_err-rounds.ensures.1 in
    rw (p.1, p.2) (out_unsettled c.args.store.now c.args.times.now c.capacity.ensures c.args.sends.now c.args.before.now c.args.gap.now c.args.latency.now c.args.spare.now c.fit.ensures c.if-not-fit.false _ _ _ c.match_messages.ensures _ _ _ _ c.in_ok-matched.was _ _ (rw c.in_err-rounds.was at c.settle_with.ensures))

pub returns : goal.returns
returns c = out_rounds c.args.store.now c.args.times.now c.capacity.ensures c.args.sends.now c.args.before.now c.args.gap.now c.args.latency.now c.args.spare.now c.fit.ensures c.if-not-fit.false _ _ _ c.match_messages.ensures _ _ _ _ c.in_ok-matched.was _ _ (rw c.in_ok-rounds.was at c.settle_with.ensures)
