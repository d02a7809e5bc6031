-- The statement of `seek` leaves one answer, of a store and slices that fit. What they hold then is `Held` of crate reach, as of its own call.
use Rattle.std.specs.Prelude.{Result}
use Prim.Native.Nat.{ℕ}
use mathlib.Core.Path.{◌≡◌}
use mathlib.Core.List.{List}
use lib.IntN.{ℤ}
use Rattle.paper.specs.Answer.{Given, most, reach}
use Rattle.reach.proofs.Outcome.{one_answer}
use Rattle.seek.specs.Sought.{Sought}
use Rattle.reach.specs.declared.Unreached.{Unreached}
use Rattle.answer.specs.declared.Counts.{Counts}

pub one_sought : (g : Given) (space sends times : ℕ) → space ≡ most g → sends ≡ most g → times ≡ most g
    → (r q : Result Counts Unreached) (store store' sent sent' : List ℕ) (found found' : List ℤ)
    → Sought g space sends times r store sent found → Sought g space sends times q store' sent' found' → r ≡ q
unfolding Sought
one_sought g space sends times a b c r q store store' sent sent' found found' s t =
    one_answer g.trace (reach g) store store' sent sent' found found' r q (s a b c) (t a b c)
