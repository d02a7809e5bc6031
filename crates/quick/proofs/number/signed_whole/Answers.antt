-- The sign, and the digits behind it.
use mathlib.Core.Path.{refl}
use native.Mathlib.Omega.{arith}
use Rattle.paper.specs.Forms.{whole_size, whole_of}
use Rattle.forms.proofs.Wholes.{whole_small}
use Rattle.quick.proofs.Sizes.{whole_size_lem}
use Rattle.quick.proofs.Signs.{within, started, signed_here}
use borrow.Author.Rules.{rules}
use Rattle.quick.proofs.number.signed_whole.Goals as goal

pub run-requires : goal.run-requires
run-requires c = omega (arith, c.requires, started _ _ _ c.behind-from.ensures)

pub with_sign-requires : goal.with_sign-requires
with_sign-requires c = within whole_size whole_small _ _ _ _ (whole_size_lem _ _ _ c.run.ensures)

pub returns : goal.returns
unfolding whole_of
returns c = rw c.with_sign.ensures (signed_here whole_size _ _ _ _ _ _ (search rules) refl c.behind-from.ensures (whole_size_lem _ _ _ c.run.ensures))
