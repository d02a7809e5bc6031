use mathlib.Core.Path.{◌≡◌, refl}
use mathlib.Core.Bool.{true, false}
use native.Mathlib.Omega.{arith}
use lib.IntN.{pos}
use Rattle.std.proofs.lemmas.Bool.Decides.{nat_tests}
use Rattle.paper.specs.Tests.{eq_z}
use Rattle.signed.proofs.Equal.{bits_same}
use mir.Facts.{to_z-of_z}
use Rattle.line.proofs.Parts.{own_process, other_process}
use Rattle.line.proofs.listed.place_of.Goals as goal

pub returns-then-process-eq0 : goal.returns-then-process-eq0
returns-then-process-eq0 c =
    let none : eq_z c.args.process (pos 0) ≡ true = grind (arith, nat_tests, bits_same) in
    own_process (to_z-of_z c.ranges.processor) refl none _ c.up_to.ensures

pub returns-else-process-eq0 : goal.returns-else-process-eq0
returns-else-process-eq0 c =
    let some_process : eq_z c.args.process (pos 0) ≡ false = grind (arith, nat_tests, bits_same) in
    other_process (to_z-of_z c.ranges.processor) refl some_process
