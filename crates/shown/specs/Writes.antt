-- What `write_time` answers, and what it leaves in the room that was lent to it.
use Rattle.std.specs.Prelude.{ℕ, ◌+◌, ◌≡◌, List, ◌++◌, cond, length, take, drop, ℤ, nat_abs, leb, Result, Ok, Err}
use Rattle.paper.specs.Forms.{time_shown}
use Rattle.shown.specs.declared.Unput.{Unput}

-- a word put at `at`: the place behind it, where the room reaches so far
unfoldable pub put_of : List ℕ → ℕ → List ℕ → Result ℕ Unput
put_of room at word = cond (leb (at + length word) (length room)) (Ok (at + length word)) (Err Unput.NoRoom)

-- the room afterwards: the word in its place and all else as it was, or nothing touched
unfoldable pub room_after : Result ℕ Unput → List ℕ → ℕ → List ℕ → List ℕ
room_after (Ok end) room at word = take at room ++ word ++ drop end room
room_after (Err Unput.NoRoom) room at word = room
room_after (Err Unput.NoTime) room at word = room

pub record WordPut (room : List ℕ) (at : ℕ) (word : List ℕ) (r : Result ℕ Unput) (after : List ℕ) : Type 0 where
  pub answer : r ≡ put_of room at word
  pub holds : after ≡ room_after r room at word

-- the same for a time, which is none above 999,999,999,999,999 on either side of zero
unfoldable pub time_put : List ℕ → ℕ → ℤ → Result ℕ Unput
time_put room at time = cond (leb (nat_abs time) 999999999999999) (put_of room at (time_shown time)) (Err Unput.NoTime)

pub record TimePut (room : List ℕ) (at : ℕ) (time : ℤ) (r : Result ℕ Unput) (after : List ℕ) : Type 0 where
  pub answer : r ≡ time_put room at time
  pub holds : after ≡ room_after r room at (time_shown time)

-- how many bytes a time takes, none for one that has no form
unfoldable pub shown_length : ℤ → ℕ
shown_length time = cond (leb (nat_abs time) 999999999999999) (length (time_shown time)) 0
