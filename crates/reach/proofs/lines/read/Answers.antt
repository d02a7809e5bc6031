-- A trace within the limit has fewer than 2 ^ 32 bytes.
use native.Mathlib.Omega.{arith}
use mathlib.Core.Path.{sym, ◌∙◌}
use Rattle.std.proofs.lemmas.Result.{err_from_is_err_and}
use Rattle.paper.specs.Answer.{longest}
use Rattle.reach.proofs.Records.{ready, comparable, keepable, line_refused, levels_refused, statistics_refused, lines_read}
use Rattle.reach.proofs.lines.read.Goals as goal

pub compare-requires : goal.compare-requires
unfolding longest
compare-requires c = comparable _ _ _ _ _ c.read_trace-read.ensures (omega (arith, c.requires.trace_len_bound)) c.requires.sized

pub settle-requires-clause-listed_in_bounds : goal.settle-requires-clause-listed_in_bounds
settle-requires-clause-listed_in_bounds c = let kept = c.compare.auto in
    (ready _ _ _ _ _ c.read_trace-read.ensures c.requires.sized kept.before kept.latency kept.times kept.spare).1

pub settle-requires-clause-keepable : goal.settle-requires-clause-keepable
unfolding longest
settle-requires-clause-keepable c = keepable _ _ _ _ _ c.read_trace-read.ensures (omega (arith, c.requires.trace_len_bound.0)) c.requires.trace_len_bound.1

pub returns-in_err-read : goal.returns-in_err-read
unfolding longest
returns-in_err-read c = let p = err_from_is_err_and c.from_residual.result c.from_residual.ensures.1 in
    rw (p.1, p.2) (line_refused _ _ _ _ _ c.read_trace-read.ensures (omega (arith, c.requires.trace_len_bound.0)) c.args.latencies.now c.args.asked _ c.in_err-read.was _ _)

pub returns-in_err-check : goal.returns-in_err-check
unfolding longest
returns-in_err-check c = let p = err_from_is_err_and c.from_residual-in_err-check.result c.from_residual-in_err-check.ensures.1 in
    rw (p.1, p.2) (levels_refused _ _ _ _ _ c.read_trace-read.ensures (omega (arith, c.requires.trace_len_bound.0)) c.args.latencies.now c.args.asked c.in_ok-read.was _ (sym c.in_err-check.was ∙ c.check.ensures) _ _)

pub returns-in_err-compare : goal.returns-in_err-compare
unfolding longest
returns-in_err-compare c = let p = err_from_is_err_and c.from_residual-in_err-compare.result c.from_residual-in_err-compare.ensures.1 in
    rw (p.1, p.2)
    (statistics_refused _ _ _ _ _ c.read_trace-read.ensures (omega (arith, c.requires.trace_len_bound.0)) c.args.latencies.now c.args.asked c.in_ok-read.was (sym c.in_ok-check.was ∙ c.check.ensures) _ (sym c.in_err-compare.was ∙ c.compare.ensures) _ _)

pub returns : goal.returns
unfolding longest
returns c = lines_read _ _ _ _ _ c.read_trace-read.ensures (omega (arith, c.requires.trace_len_bound.0)) c.args.latencies.now c.args.asked c.in_ok-read.was (sym c.in_ok-check.was ∙ c.check.ensures) (sym c.in_ok-compare.was ∙ c.compare.ensures) c.settle.ensures
