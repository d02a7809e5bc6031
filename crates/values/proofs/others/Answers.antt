use Rattle.std.specs.Prelude.{Err}
use Prim.Native.Nat.{ℕ, ◌+◌}
use mathlib.Core.Path.{◌≡◌, sym, ap, ◌∙◌}
use native.Mathlib.Omega.{arith}
use Rattle.field.proofs.Cursors.{got, not_got}
use Rattle.values.proofs.Exits.{exit}
use Rattle.values.proofs.Values.{values_stop, values_go, values_end, values_more}
use Rattle.values.proofs.others.Goals as goal

pub returns-in_err-next : goal.returns-in_err-next
returns-in_err-next c =
    exit _ c.from_residual.ensures.1 c.in_err-next.ensures.ok_part c.in_err-next.ensures.value
    ∙ values_stop _ _ _ _ c.loop-i-test.true (not_got _ _ _ c.value_at.ensures c.in_err-next.ensures.ok_part)
    ∙ sym c.loop-i.invariant.1

pub loop-i-preserved : goal.loop-i-preserved
loop-i-preserved c =
    (omega arith, c.loop-i.invariant.1 ∙ values_go _ _ _ _ c.loop-i-test.true _ _ (got _ _ _ c.value_at.ensures _ _ c.in_ok-next.ensures.ok_part))

pub returns-then-l-p : goal.returns-then-l-p
returns-then-l-p c = values_end _ _ _ _ _ c.loop-i-test.false c.if-l-p.true ∙ sym c.loop-i.invariant.1

pub returns-else-l-p : goal.returns-else-l-p
returns-else-l-p c =
    let all : c.args.n ≡ c.loop-i.i = omega (arith, c.loop-i-test.false, c.loop-i.invariant.0) in
    ap (λ (k : ℕ). Err (7 + k)) all ∙ values_more _ _ _ _ _ c.loop-i-test.false c.if-l-p.false ∙ sym c.loop-i.invariant.1
