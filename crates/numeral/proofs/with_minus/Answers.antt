-- The code fits 64 bits.
use Rattle.std.specs.Prelude.{Option, Some, None}
use Prim.Native.Nat.{ℕ, ◌≤◌, ◌-◌}
use mathlib.Core.Path.{◌≡◌, ap, sym, ◌∙◌}
use mathlib.Core.Bool.{true}
use native.Mathlib.Omega.{arith}
use borrow.Author.Rules.{rules}
use Rattle.paper.specs.Forms.{signed}
use Rattle.forms.specs.Sizes.{AtMost}
use Rattle.numeral.proofs.Sizes.{minus_code}
use Rattle.numeral.proofs.with_minus.Goals as goal

small : {s : Option ℕ} {m : ℕ} → AtMost 9223372036854775808 s → s ≡ Some m → m ≤ 9223372036854775808
unfolding AtMost
small most is = most _ is

pub returns-in_err-m : goal.returns-in_err-m
unfolding signed
returns-in_err-m c = let none : c.args.size ≡ None = c.in_err-m.was in c.from_residual.ensures ∙ rw none

pub returns-in_err-less_one : goal.returns-in_err-less_one
unfolding signed
returns-in_err-less_one c =
    let read : c.args.size ≡ Some c.in_ok-m.m = c.in_ok-m.was in
    let zero : c.in_ok-m.m ≡ 0 = omega (arith, c.in_err-less_one.ensures) in
    c.from_residual-in_err-less_one.ensures ∙ rw (read, zero)

pub overflow_mul-less_one : goal.overflow_mul-less_one
overflow_mul-less_one c = omega (arith, small c.requires c.in_ok-m.was, c.in_ok-less_one.ensures)

pub overflow_add-less_one : goal.overflow_add-less_one
overflow_add-less_one c = omega (arith, small c.requires c.in_ok-m.was, c.in_ok-less_one.ensures)

pub returns : goal.returns
returns c =
    let read : c.args.size ≡ Some c.in_ok-m.m = c.in_ok-m.was in
    let less : c.in_ok-less_one.less_one ≡ c.in_ok-m.m - 1 = c.in_ok-less_one.ensures.1 in
    minus_code _ (λ e. omega (arith, c.in_ok-less_one.ensures)) (rw less at c.from_code.ensures) (search rules) ∙ ap (signed true) (sym read)
