-- How far a call comes, of a store and two slices that are made for as many records as a call may list.
use Rattle.std.specs.Prelude.{ℕ, ◌≡◌, List, ℤ, Result}
use Rattle.paper.specs.Answer.{Given, most, reach}
use Rattle.reach.specs.Reach.{reaches}
use Rattle.reach.specs.declared.Unreached.{Unreached}
use Rattle.answer.specs.declared.Counts.{Counts}

unfoldable pub Sought : Given → (space sends times : ℕ) → Result Counts Unreached → (store sends' : List ℕ) → List ℤ → Type 0
Sought g space sends times r store sends' times' =
    space ≡ most g → sends ≡ most g → times ≡ most g → reaches g.trace (reach g) r store sends' times'
