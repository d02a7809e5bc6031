-- Each way through the match is a run of the table's numbers, a key, or a number from 0 on.
use mathlib.Core.Path.{◌≡◌, refl}
use mathlib.Core.Logic.{◌⊎◌, ⊎_elim}
use borrow.Author.Rules.{rules}
use lib.IntN.{negsuc}
use mir.Syntax.{w64}
use mir.Val.{of_z}
use Rattle.paper.specs.Events.{standing_of, negative, in_ranges}
use Rattle.events.proofs.Runs.{run, down, user, above, key}
use Rattle.events.proofs.standing.Goals as goal

pub returns-in-minus12-to-minus11 : goal.returns-in-minus12-to-minus11
returns-in-minus12-to-minus11 c = run c.ranges.event 11 12 (search rules) refl (search rules) (search rules)

pub returns-in-0-to-999999999 : goal.returns-in-0-to-999999999
returns-in-0-to-999999999 c = user c.ranges.event (search rules) (search rules)

pub returns-in-minus26-to-minus22 : goal.returns-in-minus26-to-minus22
returns-in-minus26-to-minus22 c = run c.ranges.event 62 80 (search rules) refl (search rules) (search rules)

pub returns-in-minus26-to-minus22-2 : goal.returns-in-minus26-to-minus22-2
returns-in-minus26-to-minus22-2 c = run c.ranges.event 53 56 (search rules) refl (search rules) (search rules)

pub returns-in-minus26-to-minus22-3 : goal.returns-in-minus26-to-minus22-3
returns-in-minus26-to-minus22-3 c = run c.ranges.event 32 50 (search rules) refl (search rules) (search rules)

pub returns-in-minus26-to-minus22-4 : goal.returns-in-minus26-to-minus22-4
returns-in-minus26-to-minus22-4 c = run c.ranges.event 22 26 (search rules) refl (search rules) (search rules)

pub returns-in_default : goal.returns-in_default
returns-in_default c = down c.ranges.event 915 (search rules) refl (search rules)

pub returns-in_default-2 : goal.returns-in_default-2
returns-in_default-2 c = run c.ranges.event 905 910 (search rules) refl (search rules) (search rules)

pub returns-in_default-3 : goal.returns-in_default-3
returns-in_default-3 c = run c.ranges.event 604 900 (search rules) refl (search rules) (search rules)

pub returns-in_default-4 : goal.returns-in_default-4
returns-in_default-4 c = run c.ranges.event 504 600 (search rules) refl (search rules) (search rules)

pub returns-in_default-5 : goal.returns-in_default-5
returns-in_default-5 c = run c.ranges.event 403 500 (search rules) refl (search rules) (search rules)

pub returns-in_default-6 : goal.returns-in_default-6
returns-in_default-6 c = run c.ranges.event 203 400 (search rules) refl (search rules) (search rules)

pub returns-in_default-7 : goal.returns-in_default-7
returns-in_default-7 c = run c.ranges.event 81 200 (search rules) refl (search rules) (search rules)

pub returns-in_default-8 : goal.returns-in_default-8
returns-in_default-8 c = run c.ranges.event 13 21 (search rules) refl (search rules) (search rules)

pub returns-in_default-9 : goal.returns-in_default-9
returns-in_default-9 c = run c.ranges.event 1 10 (search rules) refl (search rules) (search rules)

pub returns-in_default-10 : goal.returns-in_default-10
returns-in_default-10 c = above c.ranges.event (search rules)

pub returns-in-minus21 : goal.returns-in-minus21
unfolding standing_of negative in_ranges
returns-in-minus21 c = key c.ranges.event (negsuc 20) refl refl (search rules)

pub returns-in-minus21-2 : goal.returns-in-minus21-2
returns-in-minus21-2 c = run c.ranges.event 57 61 (search rules) refl (search rules) (search rules)

pub returns-in-minus21-3 : goal.returns-in-minus21-3
returns-in-minus21-3 c = run c.ranges.event 51 52 (search rules) refl (search rules) (search rules)

pub returns-in-minus21-4 : goal.returns-in-minus21-4
returns-in-minus21-4 c = run c.ranges.event 27 31 (search rules) refl (search rules) (search rules)

pub returns-in-minus202-to-minus201 : goal.returns-in-minus202-to-minus201
unfolding standing_of negative in_ranges
returns-in-minus202-to-minus201 c =
    let either : (of_z w64 c.args.event ≡ of_z w64 (negsuc 250)) ⊎ (of_z w64 c.args.event ≡ of_z w64 (negsuc 220)) = search rules in
    ⊎_elim (key c.ranges.event (negsuc 250) refl refl) (key c.ranges.event (negsuc 220) refl refl) either

pub returns-in-minus202-to-minus201-2 : goal.returns-in-minus202-to-minus201-2
returns-in-minus202-to-minus201-2 c = run c.ranges.event 911 914 (search rules) refl (search rules) (search rules)

pub returns-in-minus202-to-minus201-3 : goal.returns-in-minus202-to-minus201-3
returns-in-minus202-to-minus201-3 c = run c.ranges.event 901 904 (search rules) refl (search rules) (search rules)

pub returns-in-minus202-to-minus201-4 : goal.returns-in-minus202-to-minus201-4
returns-in-minus202-to-minus201-4 c = run c.ranges.event 601 603 (search rules) refl (search rules) (search rules)

pub returns-in-minus202-to-minus201-5 : goal.returns-in-minus202-to-minus201-5
returns-in-minus202-to-minus201-5 c = run c.ranges.event 501 503 (search rules) refl (search rules) (search rules)

pub returns-in-minus202-to-minus201-6 : goal.returns-in-minus202-to-minus201-6
returns-in-minus202-to-minus201-6 c = run c.ranges.event 401 402 (search rules) refl (search rules) (search rules)

pub returns-in-minus202-to-minus201-7 : goal.returns-in-minus202-to-minus201-7
returns-in-minus202-to-minus201-7 c = run c.ranges.event 201 202 (search rules) refl (search rules) (search rules)
