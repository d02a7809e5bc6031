-- What the program `latencies TEXT TABLE` says, in its order. The system tells two things, which are given here: the text's file as it
-- could be read, and whether the table's file could be written. A count of arguments has the program's own name in it.
use Rattle.std.specs.Prelude.{ℕ, Bool, true, false, cond, List, length, ltb, Option, Some, None, Ok, Err}
use Rattle.text.specs.Text.{Made, made_of}
use Rattle.text.specs.declared.Unmade.{Unmade}
use Rattle.text.specs.declared.Unmade.TheVariants.{BadLine, Open}
use Rattle.report.specs.declared.Told.{Told}
use Rattle.files.specs.Told.{ByStored}

unfoldable pub unmade_told : Unmade → Told
unmade_told (BadLine line) = Told.BadLine line
unmade_told (Open sender receiver) = Told.Uncovered sender receiver

-- only a whole table goes to its file
unfoldable pub on_made : Made → (stored : Bool) → Told
on_made (Ok whole) true = Told.Written
on_made (Ok whole) false = Told.CannotWrite
on_made (Err unmade) stored = unmade_told unmade

-- a text of at most 262,144 bytes
unfoldable pub on_text : List ℕ → (stored : Bool) → Told
on_text text stored = let told = on_made (made_of text) stored in cond (ltb 262144 (length text)) Told.TooLong told

unfoldable pub on_file : (text : Option (List ℕ)) (stored : Bool) → Told
on_file None stored = Told.CannotRead
on_file (Some text) stored = on_text text stored

-- an argument too many is told before anything is looked at, and then a text that isn't named
unfoldable pub told_of : (count : ℕ) (text : Option (List ℕ)) (stored : Bool) → Told
told_of count text stored = let told = on_file text stored in cond (ltb 3 count) Told.TooMany (cond (ltb count 2) Told.CannotRead told)

-- ---- what the functions that ask the system leave: what is said, by what they were told

-- by what the text's file held, and by whether the table's could be written
pub record ByFile (by : Option (List ℕ) → Bool → Told) (told : Told) : Type 0 where
  pub text : Option (List ℕ)
  pub rest : ByStored (by text) told
