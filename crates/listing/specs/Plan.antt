-- The answer and the numbers of a call before its list is filled, and the list once it is.
use Rattle.std.specs.Prelude.{ℕ, zero, suc, ◌/◌, ◌≤◌, ◌≡◌, List, length, set, ℤ, Result, Ok, Err}
use Rattle.paper.specs.Answer.{reach}
use Rattle.paper.specs.Filling.{Query, filling, judged}
use Rattle.paper.specs.Messages.{messages}
use Rattle.paper.specs.declared.Filled.{Filled}
use Rattle.paper.specs.declared.Pair.{Pair}
use Rattle.reach.specs.Reach.{reaches}
use Rattle.mail.specs.Mail.{pair_at}
use Rattle.reach.specs.declared.Unreached.{Unreached}
use Rattle.answer.specs.declared.Counts.{Counts}

-- a list with its first n places taken from the numbers
unfoldable pub laid : List ℕ → List Pair → ℕ → List Pair
laid numbers list zero = list
laid numbers list (suc n) = set (laid numbers list n) n (pair_at numbers n)

-- an answer and numbers that are right for every list of so many places: "Refusals touch no list", for then nothing is filled
pub record Planned (q : Query) (places : ℕ) (r : Filled) (numbers : List ℕ) : Type 0 where
  pub within : r.filled ≤ places
  pub gives : (list : List Pair) → length list ≡ places → filling r (laid numbers list r.filled) ≡ messages q list

-- ---- the ending

-- a send's place for each listed record
unfoldable pub WithSends : Result Counts Unreached → List ℕ → Type 0
WithSends (Ok counts) sends = counts.listed ≤ length sends
WithSends (Err (Unreached.Refused refusal)) sends = Unit
WithSends (Err Unreached.Misfit) sends = Unit

-- whatever was asked: where the call came so far with it, and the numbers are enough, it is planned
unfoldable pub ConcludedBy : Result Counts Unreached → List ℕ → (places room : ℕ) → Filled → List ℕ → Type 0
ConcludedBy reached sends places room r numbers =
    (q : Query) (store : List ℕ) (new : List ℤ)
    → length sends ≤ room / 2
    → reaches q.trace (reach (judged q)) reached store sends new
    → Planned q places r numbers
