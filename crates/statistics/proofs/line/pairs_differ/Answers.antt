use Rattle.std.proofs.Common.{◌≡◌, ◌+◌, ◌-◌, suc, sym, refl, ◌∙◌, w64, to_z, of_z, rules, arith, le-ltb}
use native.Mathlib.Nat.{sub-zero}
use Rattle.field.specs.Cursor.{read_as}
use Rattle.field.proofs.Cursors.{got, not_got}
use Rattle.reading.specs.Tidy.{InRange}
use Rattle.statistics.proofs.Pairs.{told_in_range, no_event, no_value, pair_more, same_pair, pairs_end, pairs_more}
use Rattle.statistics.proofs.line.pairs_differ.Goals as goal

pub loop-init : goal.loop-init
loop-init c = record { from = 7; same = rw sub-zero refl }

pub returns-in_default : goal.returns-in_default
unfolding read_as
returns-in_default c =
    no_event _ _ _ _ _ c.loop.invariant.from _ _ (omega (arith, c.loop-test.true)) (not_got _ _ _ c.value_at.ensures c.in_default.is) ∙ sym c.loop.invariant.same

pub returns-in_default-value_at : goal.returns-in_default-value_at
unfolding read_as
returns-in_default-value_at c = no_value _ _ _ _ _ c.loop.invariant.from _ _ _ (got _ _ _ c.value_at.ensures _ _ c.in-Some.is) _ (omega (arith, c.loop-test.true))
    (not_got _ _ _ c.value_at-in-loop.ensures c.in_default-value_at.is) ∙ sym c.loop.invariant.same

pub differs-found-requires : goal.differs-found-requires
differs-found-requires c =
    let told = c.in-Some-value_at.told in
    let range : InRange told = told_in_range _ _ _ _ (got _ _ _ c.value_at-in-loop.ensures _ _ c.in-Some-value_at.is) in
    let same : to_z w64 (of_z w64 told) ≡ told = search rules in
    (rw same range, c.requires)

pub loop-preserved : goal.loop-preserved
unfolding read_as
loop-preserved c =
    let less : c.args.n - (c.loop.counter + 1) ≡ c.args.n - c.loop.counter - 1 = omega arith in
    record {
      from = suc (suc c.loop.invariant.from);
      same = c.loop.invariant.same
          ∙ rw less
          (pair_more _ _ _ _ _ _ _ _ _ (got _ _ _ c.value_at.ensures _ _ c.in-Some.is) _ (omega (arith, c.loop-test.true)) _ _
          (got _ _ _ c.value_at-in-loop.ensures _ _ c.in-Some-value_at.is)
          (same_pair _ _ _ c.differs-found.ensures (search rules) (search rules)));
    }

pub returns-then-l-p : goal.returns-then-l-p
returns-then-l-p c =
    pairs_end _ _ _ _ _ c.loop.invariant.from _ _ _ (omega (arith, c.loop-test.false)) c.if-l-p.true ∙ sym c.loop.invariant.same

pub returns-else-l-p : goal.returns-else-l-p
returns-else-l-p c =
    le-ltb _ _ c.if-l-p.false
    ∙ pairs_more _ _ _ _ _ c.loop.invariant.from _ _ _ (omega (arith, c.loop-test.false)) c.if-l-p.false ∙ sym c.loop.invariant.same
