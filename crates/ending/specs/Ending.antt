-- What a call comes to whose times were found: the answer by what the writing came to, and the lent times by the answer.
use Rattle.std.specs.Prelude.{ℕ, ◌≡◌, List, ◌++◌, cond, length, drop, ℤ, eqb, leb, Result, Ok, Err}
use Rattle.paper.specs.Columns.{nowhere}
use Rattle.paper.specs.declared.Fault.TheVariants as Fault
use Rattle.paper.specs.declared.Answer.{Answer}
use Rattle.answer.specs.declared.Counts.{Counts}
use Rattle.answer.specs.Answers.{refusal, acceptance}
use Rattle.writing.specs.declared.Unwritten.{Unwritten}

-- "then 16", or acceptance with the written trace's length
unfoldable pub answer_for : Counts → Result ℕ Unwritten → Answer
answer_for c (Ok bytes) = acceptance c bytes
answer_for c (Err Unwritten.NoRoom) = refusal Fault.NoRoom nowhere
answer_for c (Err Unwritten.Unfit) = refusal Fault.NoRoom nowhere

-- the new times in the first places, where there is one for each
unfoldable pub placed : (new times : List ℤ) → List ℤ
placed new times = cond (leb (length new) (length times)) (new ++ drop (length new) times) times

-- the lent times behind an answer: the new ones at their start after acceptance, after a refusal as they were
unfoldable pub times_after : ℕ → (new times : List ℤ) → List ℤ
times_after number new times = cond (eqb number 0) (placed new times) times

pub record EndedBy (counts : Counts) (done : Result ℕ Unwritten) (new times : List ℤ) (r : Answer) (times' : List ℤ) : Type 0 where
  pub answer : r ≡ answer_for counts done
  pub keeps : times' ≡ times_after (answer_for counts done).number new times
