-- Slices made for as many records as a call may list.
use Rattle.std.specs.Prelude.{Result}
use Prim.Native.Nat.{ℕ}
use mathlib.Core.Path.{◌≡◌, refl}
use mathlib.Core.List.{List, [], ◌∷◌}
use mathlib.Core.Bool.{true}
use lib.IntN.{ℤ}
use borrow.Author.Tests.{eq-eqb}
use Rattle.paper.specs.Answer.{Given, most}
use Rattle.engine.specs.Promise.{all_are}
use Rattle.reach.specs.Reach.{fits, ReachedBy}
use Rattle.seek.specs.Sought.{Sought}
use Rattle.reach.specs.declared.Unreached.{Unreached}
use Rattle.answer.specs.declared.Counts.{Counts}

all_fit : (n : ℕ) {space sends before gap latency times spare : ℕ} → space ≡ n → sends ≡ n → before ≡ n → gap ≡ n → latency ≡ n → times ≡ n → spare ≡ n
    → fits n space (times ∷ sends ∷ before ∷ gap ∷ latency ∷ spare ∷ []) ≡ true
unfolding fits all_are
all_fit n c s b g l t p = rw (c, s, b, g, l, t, p, eq-eqb n n refl)

pub sought : (g : Given) (space sends times : ℕ) {before gap latency spare : ℕ} (r : Result Counts Unreached) (store sends' : List ℕ) (times' : List ℤ)
    → before ≡ most g → gap ≡ most g → latency ≡ most g → spare ≡ most g
    → ReachedBy (fits (most g) space (times ∷ sends ∷ before ∷ gap ∷ latency ∷ spare ∷ [])) g r store sends' times'
    → Sought g space sends times r store sends' times'
unfolding Sought
sought g space sends times r store sends' times' b k l p by c s t = by.answers (all_fit (most g) c s b k l t p)
