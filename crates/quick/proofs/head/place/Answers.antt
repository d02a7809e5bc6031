-- Two fields and the count behind them.
use native.Mathlib.Omega.{arith}
use mathlib.Core.Bool.{false}
use Rattle.quick.specs.Lines.{PlaceAt, OpensAt, stop_of}
use Rattle.paper.specs.Forms.{whole_of}
use Rattle.quick.proofs.Moves.{whole_clean, field_told}
use Rattle.quick.proofs.Opens.{counted, place_here}
use borrow.Author.Rules.{rules}
use mir.Facts.{to_z-of_z}
use Rattle.quick.proofs.head.place.Goals as goal

pub returns-in_err-processor : goal.returns-in_err-processor
unfolding PlaceAt OpensAt
returns-in_err-processor c = rw c.from_residual.ensures tt

pub whole-requires-2 : goal.whole-requires-2
unfolding stop_of
whole-requires-2 c = let k₄ = field_told whole_of whole_clean _ _ _ false _ c.whole.ensures _ _ c.in_ok-processor.was in
    omega (arith, c.requires, k₄.1)

pub returns-in_err-process : goal.returns-in_err-process
unfolding PlaceAt OpensAt
returns-in_err-process c = rw c.from_residual-in_err-process.ensures tt

pub count-requires : goal.count-requires
unfolding stop_of
count-requires c = let k₄ = field_told whole_of whole_clean _ _ _ false _ c.whole.ensures _ _ c.in_ok-processor.was in
    let k₅ = field_told whole_of whole_clean _ _ _ false _ c.whole-2.ensures _ _ c.in_ok-process.was in
    omega (arith, c.requires, k₄.1, k₅.1)

pub returns-in_err-count : goal.returns-in_err-count
unfolding PlaceAt OpensAt
returns-in_err-count c = rw c.from_residual-in_err-count.ensures tt

pub returns : goal.returns
unfolding PlaceAt OpensAt stop_of
returns c = let k₄ = field_told whole_of whole_clean _ _ _ false _ c.whole.ensures _ _ c.in_ok-processor.was in
    let k₅ = field_told whole_of whole_clean _ _ _ false _ c.whole-2.ensures _ _ c.in_ok-process.was in
    let k₆ = counted _ _ _ c.count.ensures _ _ _ c.in_ok-count.was in
    place_here _ _ _ _ _ _ _ (to_z-of_z c.ranges.kind) (to_z-of_z c.ranges.event) (to_z-of_z c.ranges.time) (search rules)
    (search rules) k₄.0 k₅.0 k₆
