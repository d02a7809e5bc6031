-- What writing a trace answers, and what it leaves in the room.
use Rattle.std.specs.Prelude.{ℕ, ◌≡◌, List, ◌++◌, cond, length, drop, ℤ, leb, Option, Result, Some, None, Ok, Err}
use Rattle.writing.specs.Patched.{bytes_for}
use Rattle.writing.specs.declared.Unwritten.{Unwritten}

-- a length, where the room is long enough
unfoldable pub fit_of : ℕ → ℕ → Result ℕ Unwritten
fit_of n most = cond (leb n most) (Ok n) (Err Unwritten.NoRoom)

-- that of the written trace, where there is one
unfoldable pub answer_of : Option (List ℕ) → ℕ → Result ℕ Unwritten
answer_of None most = Err Unwritten.Unfit
answer_of (Some bytes) most = fit_of (length bytes) most

-- it stands at the start of the room, and all else there is as it was; or nothing is touched
unfoldable pub room_after : Option (List ℕ) → List ℕ → List ℕ
room_after None room = room
room_after (Some bytes) room = cond (leb (length bytes) (length room)) (bytes ++ drop (length bytes) room) room

pub record WrittenInto (s : List ℕ) (store : List ℕ) (times : List ℤ) (room : List ℕ) (r : Result ℕ Unwritten) (after : List ℕ) : Type 0 where
  pub answer : r ≡ answer_of (bytes_for s store times) (length room)
  pub holds : after ≡ room_after (bytes_for s store times) room
