-- What was read fits an i64 on either side of zero.
use Rattle.std.specs.Prelude.{Option, Some}
use Prim.Native.Nat.{ℕ, ◌<◌, ◌^◌}
use mathlib.Core.Path.{◌≡◌}
use native.Mathlib.Omega.{arith}
use lib.IntN.{pos}
use mir.Syntax.{w64}
use mir.Facts.{to_z_pos}
use Rattle.forms.proofs.Machine.{sized, minus_fits, minus_back}
use Rattle.quick.specs.Words.{Within, signed_by}
use Rattle.quick.proofs.Signs.{minus_of, fits_within, no_size}
use Rattle.quick.proofs.number.with_sign.Goals as goal

small : {z : Option (ℕ × ℕ)} {m end : ℕ} → Within z → z ≡ Some (m, end) → m < 2 ^ 63
small within is = omega (arith, fits_within _ within _ _ is)

pub overflow_cast-z : goal.overflow_cast-z
overflow_cast-z c = sized (pos _) (small c.requires c.in_ok-m.was)

pub overflow_sub-result : goal.overflow_sub-result
overflow_sub-result c = let low = small c.requires c.in_ok-m.was in minus_fits (sized (pos _) low) low

pub returns-then-m-eq0 : goal.returns-then-m-eq0
unfolding signed_by
returns-then-m-eq0 c = rw (c.in_ok-m.was, c.if-not-minus.false, c.if-m-eq0.true)

pub returns-else-m-eq0 : goal.returns-else-m-eq0
returns-else-m-eq0 c = let low = small c.requires c.in_ok-m.was in
    rw (c.in_ok-m.was, c.if-not-minus.false, minus_of _ _ c.if-m-eq0.false, minus_back (sized (pos c.in_ok-m.m) low) low)

pub returns-then-not-minus : goal.returns-then-not-minus
unfolding signed_by
returns-then-not-minus c = rw (c.in_ok-m.was, c.if-not-minus.true, to_z_pos w64 (small c.requires c.in_ok-m.was))

pub returns-in_err-m : goal.returns-in_err-m
returns-in_err-m c = rw (c.from_residual.ensures, c.in_err-m.was) (no_size _)
