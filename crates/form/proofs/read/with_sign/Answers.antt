-- What was read fits an i64 on either side of zero.
use Rattle.std.specs.Prelude.{Option, Some, None}
use Prim.Native.Nat.{ℕ, ◌<◌, ◌^◌}
use mathlib.Core.Path.{◌≡◌, ◌∙◌}
use native.Mathlib.Omega.{arith}
use lib.IntN.{pos}
use mir.Syntax.{w64}
use mir.Facts.{to_z_pos}
use Rattle.paper.specs.Forms.{signed}
use Rattle.forms.specs.Sizes.{AtMost}
use Rattle.forms.proofs.Machine.{sized, minus_fits, minus_back}
use Rattle.forms.proofs.Signs.{never_good, minus_good}
use Rattle.form.proofs.read.with_sign.Goals as goal

small : {s : Option ℕ} {m : ℕ} → AtMost 999999999999999 s → s ≡ Some m → m < 2 ^ 63
unfolding AtMost
small most is = omega (arith, most _ is)

pub returns-in_err-m : goal.returns-in_err-m
returns-in_err-m c = let none : c.args.size ≡ None = c.in_err-m.was in c.from_residual.ensures ∙ rw none (never_good _)

pub overflow_cast-z : goal.overflow_cast-z
overflow_cast-z c = sized (pos _) (small c.requires c.in_ok-m.was)

pub overflow_sub-result : goal.overflow_sub-result
overflow_sub-result c = let m = small c.requires c.in_ok-m.was in minus_fits (sized (pos _) m) m

pub returns-then-not-minus : goal.returns-then-not-minus
unfolding signed
returns-then-not-minus c =
    let read : c.args.size ≡ Some c.in_ok-m.m = c.in_ok-m.was in
    rw (read, c.if-not-minus.true, to_z_pos w64 (small c.requires read))

pub returns-then-m-eq0 : goal.returns-then-m-eq0
unfolding signed
returns-then-m-eq0 c =
    let read : c.args.size ≡ Some c.in_ok-m.m = c.in_ok-m.was in
    rw (read, c.if-not-minus.false, c.if-m-eq0.true)

pub returns-else-m-eq0 : goal.returns-else-m-eq0
returns-else-m-eq0 c =
    let read : c.args.size ≡ Some c.in_ok-m.m = c.in_ok-m.was in
    let m = small c.requires read in
    rw (read, c.if-not-minus.false, minus_good _ c.if-m-eq0.false, minus_back (sized (pos _) m) m)
