use Rattle.std.specs.Prelude.{Err}
use Prim.Native.Nat.{ℕ, ◌+◌, ◌*◌}
use mathlib.Core.Path.{◌≡◌, sym, ap, ◌∙◌}
use native.Mathlib.Omega.{arith}
use Rattle.field.specs.Cursor.{read_as}
use Rattle.field.proofs.Cursors.{got, not_got}
use Rattle.values.proofs.Exits.{exit}
use Rattle.values.proofs.Paired.{event_stop, value_stop, pairs_go, pairs_end, pairs_more}
use Rattle.values.proofs.pairs.pairs.Goals as goal

pub returns-in_err-second : goal.returns-in_err-second
unfolding read_as
returns-in_err-second c =
    exit _ c.from_residual.ensures.1 c.in_err-second.ensures.ok_part c.in_err-second.ensures.value
    ∙ event_stop _ _ _ _ c.loop-i-test.true (not_got _ _ _ c.value_at.ensures c.in_err-second.ensures.ok_part)
    ∙ sym c.loop-i.invariant.1

pub returns-in_err-next : goal.returns-in_err-next
unfolding read_as
returns-in_err-next c =
    let first = got _ _ _ c.value_at.ensures _ _ c.in_ok-second.ensures.ok_part in
    exit _ c.from_residual-in_err-next.ensures.1 c.in_err-next.ensures.ok_part c.in_err-next.ensures.value
    ∙ value_stop _ _ _ _ c.loop-i-test.true _ _ first (not_got _ _ _ c.value_at-in-loop-i.ensures c.in_err-next.ensures.ok_part)
    ∙ sym c.loop-i.invariant.1

pub loop-i-preserved : goal.loop-i-preserved
unfolding read_as
loop-i-preserved c =
    let first = got _ _ _ c.value_at.ensures _ _ c.in_ok-second.ensures.ok_part in
    let second = got _ _ _ c.value_at-in-loop-i.ensures _ _ c.in_ok-next.ensures.ok_part in
    (omega arith, c.loop-i.invariant.1 ∙ pairs_go _ _ _ _ c.loop-i-test.true _ _ first _ _ second)

pub returns-then-l-p : goal.returns-then-l-p
returns-then-l-p c = pairs_end _ _ _ _ _ c.loop-i-test.false c.if-l-p.true ∙ sym c.loop-i.invariant.1

pub returns-else-l-p : goal.returns-else-l-p
returns-else-l-p c =
    let all : c.args.n ≡ c.loop-i.i = omega (arith, c.loop-i-test.false, c.loop-i.invariant.0) in
    ap (λ (k : ℕ). Err (7 + 2 * k)) all ∙ pairs_more _ _ _ _ _ c.loop-i-test.false c.if-l-p.false ∙ sym c.loop-i.invariant.1
