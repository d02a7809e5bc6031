-- A law of `time_size` for each way out; the needs between them are of lengths alone.
use Rattle.std.specs.Prelude.{Option}
use Prim.Native.Nat.{ℕ, ◌-◌}
use mathlib.Core.Path.{◌≡◌, sym, ◌∙◌}
use mathlib.Core.List.{List}
use native.Mathlib.Nat.{sub-zero}
use lib.ListN.{take, drop}
use Rattle.forms.specs.Sizes.{whole_part}
use borrow.Author.Rules.{rules}
use Rattle.forms.proofs.Times.{point_at, time_short, time_long, pointless, whole_bad, whole_below, whole_good}
use Rattle.form.proofs.read.time_size.Goals as goal
use Rattle.form.proofs.read.time_size.Goals.{then-n-lt8-via-then-n-lt8, then-n-lt8-via-else-n-lt8+then-n-gt16}

from_start : (s : List ℕ) {o : Option ℕ} → o ≡ whole_part (take (point_at s) s) → o ≡ whole_part (take (point_at s - 0) (drop 0 s))
from_start s e = rw sub-zero e

pub returns-then-n-lt8 : goal.returns-then-n-lt8
returns-then-n-lt8 c =
    elim c.then-n-lt8.branch [
      | then-n-lt8-via-then-n-lt8 w ↦ sym (time_short _ w.if-n-lt8.true)
      | then-n-lt8-via-else-n-lt8+then-n-gt16 w ↦ sym (time_long _ w.if-n-gt16.true)
    ]

pub returns-then-s-point-ne46 : goal.returns-then-s-point-ne46
returns-then-s-point-ne46 c = sym (pointless _ c.if-s-point-ne46.true)

pub returns-in_err-seconds : goal.returns-in_err-seconds
returns-in_err-seconds c =
    c.from_residual.ensures ∙ whole_bad _ c.if-n-gt16.false c.if-s-point-ne46.false _ (from_start _ c.whole_part.ensures) c.in_err-seconds.was

pub read_digits-requires : goal.read_digits-requires
read_digits-requires c =
    (search rules, whole_below c.args.s.now c.if-n-gt16.false c.if-s-point-ne46.false _ (from_start _ c.whole_part.ensures) _ c.in_ok-seconds.was)

pub returns : goal.returns
returns c =
    c.read_digits.ensures ∙ whole_good _ c.if-n-gt16.false c.if-s-point-ne46.false _ (from_start _ c.whole_part.ensures) _ c.in_ok-seconds.was
