-- Three fields, and the other three behind them.
use native.Mathlib.Omega.{arith}
use mathlib.Core.Bool.{false}
use Rattle.quick.specs.Lines.{BeginsAt, OpensAt, stop_of}
use Rattle.paper.specs.Forms.{whole_of, time_of}
use Rattle.quick.proofs.Moves.{whole_clean, time_clean, field_told}
use Rattle.quick.proofs.Opens.{six_here}
use borrow.Author.Rules.{rules}
use Rattle.quick.proofs.head.six.Goals as goal

pub returns-in_err-kind : goal.returns-in_err-kind
unfolding BeginsAt OpensAt
returns-in_err-kind c = rw c.from_residual.ensures tt

pub whole-requires-2 : goal.whole-requires-2
unfolding stop_of
whole-requires-2 c = let k₁ = field_told whole_of whole_clean _ _ _ false _ c.whole.ensures _ _ c.in_ok-kind.was in
    omega (arith, c.requires, k₁.1)

pub returns-in_err-event : goal.returns-in_err-event
unfolding BeginsAt OpensAt
returns-in_err-event c = rw c.from_residual-in_err-event.ensures tt

pub time-requires : goal.time-requires
unfolding stop_of
time-requires c = let k₁ = field_told whole_of whole_clean _ _ _ false _ c.whole.ensures _ _ c.in_ok-kind.was in
    let k₂ = field_told whole_of whole_clean _ _ _ false _ c.whole-2.ensures _ _ c.in_ok-event.was in
    omega (arith, c.requires, k₁.1, k₂.1)

pub returns-in_err-time : goal.returns-in_err-time
unfolding BeginsAt OpensAt
returns-in_err-time c = rw c.from_residual-in_err-time.ensures tt

pub place-requires : goal.place-requires
unfolding stop_of
place-requires c = let k₁ = field_told whole_of whole_clean _ _ _ false _ c.whole.ensures _ _ c.in_ok-kind.was in
    let k₂ = field_told whole_of whole_clean _ _ _ false _ c.whole-2.ensures _ _ c.in_ok-event.was in
    let k₃ = field_told time_of time_clean _ _ _ false _ c.time.ensures _ _ c.in_ok-time.was in
    omega (arith, c.requires, k₁.1, k₂.1, k₃.1)

pub returns : goal.returns
unfolding stop_of
returns c = let k₁ = field_told whole_of whole_clean _ _ _ false _ c.whole.ensures _ _ c.in_ok-kind.was in
    let k₂ = field_told whole_of whole_clean _ _ _ false _ c.whole-2.ensures _ _ c.in_ok-event.was in
    let k₃ = field_told time_of time_clean _ _ _ false _ c.time.ensures _ _ c.in_ok-time.was in
    six_here _ _ _ _ _ (search rules) (search rules)
    (search rules) k₁.0 k₂.0 k₃.0 _ c.place.ensures
