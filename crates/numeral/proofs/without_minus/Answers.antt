-- The code fits 64 bits.
use Rattle.std.specs.Prelude.{Option, Some, None}
use Prim.Native.Nat.{ℕ, ◌≤◌}
use mathlib.Core.Path.{◌≡◌, ap, sym, ◌∙◌}
use mathlib.Core.Bool.{false}
use native.Mathlib.Omega.{arith}
use borrow.Author.Rules.{rules}
use Rattle.paper.specs.Forms.{signed}
use Rattle.forms.specs.Sizes.{AtMost}
use Rattle.numeral.proofs.Sizes.{plus_code}
use Rattle.numeral.proofs.without_minus.Goals as goal

small : {s : Option ℕ} {m : ℕ} → AtMost 9223372036854775807 s → s ≡ Some m → m ≤ 9223372036854775807
unfolding AtMost
small most is = most _ is

pub overflow_mul-m : goal.overflow_mul-m
overflow_mul-m c = omega (arith, small c.requires c.in_ok-m.was)

pub returns-in_err-m : goal.returns-in_err-m
unfolding signed
returns-in_err-m c = let none : c.args.size ≡ None = c.in_err-m.was in c.from_residual.ensures ∙ rw none

pub returns : goal.returns
returns c =
    let read : c.args.size ≡ Some c.in_ok-m.m = c.in_ok-m.was in
    plus_code _ c.from_code.ensures (search rules) ∙ ap (signed false) (sym read)
