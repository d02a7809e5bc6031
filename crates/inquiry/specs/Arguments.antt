-- What the arguments ask for: those of `cantuvesh`, but that `why` has a line of the file as its fourth and may have a share as its
-- fifth, and `messages` has no fourth.
use Rattle.std.specs.Prelude.{ℕ, Bool, false, cond, List, eqb, ltb, Result, Ok, Err}
use Rattle.paper.specs.Columns.{nowhere}
use Rattle.paper.specs.declared.Fault.TheVariants as Fault
use Rattle.answer.specs.Answers.{refusal}
use Rattle.arguments.specs.Arguments.{plan_of, choice_and_share}
use Rattle.named.specs.Values.{share_of}
use Rattle.report.specs.declared.Said.{Said}
use Rattle.showing.specs.declared.Shows.{Shows}
use Rattle.showing.specs.declared.Shows.TheVariants.{Messages, Reasons}
use Rattle.paper.specs.declared.Asked.{Asked}
use Rattle.arguments.specs.declared.Misuse.{Misuse}

unfoldable pub too_many : Shows → Bool → Bool
too_many Messages more = more
too_many Reasons more = false

-- how many arguments there are but for a share, with the program's own name in the count
unfoldable pub without_share : Shows → ℕ → ℕ
without_share Messages count = count
without_share Reasons count = cond (eqb count 6) 5 count

-- the share that is asked for: "Share 0 is today's rule" where none is named, and a word that is no share is refused as one above 1,000 is
unfoldable pub share_in : (count : ℕ) (word : List ℕ) → ℕ
share_in count word = cond (ltb 5 count) (share_of word) 0

unfoldable pub on_plan : Shows → (share : ℕ) → Result (ℕ × Bool) Misuse → Result Asked Said
on_plan shows share (Err Misuse.BadChoice) = Err (Said.Answered (refusal Fault.BadChoice nowhere))
on_plan shows share (Err Misuse.TooMany) = Err Said.TooMany
on_plan shows share (Err Misuse.Unnamed) = Err Said.CannotRead
on_plan shows share (Ok (choice, more)) = cond (too_many shows more) (Err Said.TooMany) (Ok (choice_and_share choice share))

-- the choice first, then too many arguments, then a file that is not named
unfoldable pub start_of : Shows → (count : ℕ) (choice share : List ℕ) → Result Asked Said
start_of shows count choice share = on_plan shows (share_in count share) (plan_of (without_share shows count) choice)
