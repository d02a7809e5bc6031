-- The store: the listed records one after the other, ten numbers of 32 bits to a record. The time's code in two halves, the low one
-- first; the line, and where in the trace it starts; the processor with what the record is among the messages and what its data
-- are; the codes of record type, event type and the three data. A code is `code_of` of crate signed.
use Rattle.std.specs.Prelude.{ℕ, ◌+◌, ◌*◌, ◌/◌, ◌%◌, ◌<◌, ◌^◌, ◌≡◌, List, [], ◌∷◌, ◌++◌, cond, length, get_or, take, drop, ℤ, pos, ltb, eqb}
use Rattle.paper.specs.Clock.{listed}
use Rattle.paper.specs.Matching.{no_entry}
use Rattle.paper.specs.declared.Data.{Data}
use Rattle.paper.specs.declared.Data.TheVariants.{Three, Others}
use Rattle.paper.specs.declared.Message.{Message}
use Rattle.paper.specs.declared.Role.{Role}
use Rattle.paper.specs.declared.Role.TheVariants.{Neither, Send, Receive}
use Rattle.paper.specs.declared.Entry.{Entry}
use Rattle.reading.specs.Tidy.{TidyRecord}
use Rattle.signed.specs.Codes.{code_of, decoded}

-- how many numbers a record takes
unfoldable pub width : ℕ
width = 10

-- how many records there is room for
unfoldable pub capacity : List ℕ → ℕ
capacity l = length l / width

-- a record's place in the store is kept in 32 bits, and so is the number of the records, which stands for no place
abbrev pub too_many : ℕ
too_many = 2 ^ 32

-- ---- one record as numbers

unfoldable pub role_code : Role → ℕ
role_code Neither = 0
role_code (Send m) = 1
role_code (Receive m) = 2

unfoldable pub values_code : Data → ℕ
values_code Others = 0
values_code (Three a b c) = 1

-- the k-th of three data, 0 where there are no three
unfoldable pub datum : Data → ℕ → ℤ
datum (Three a b c) k = get_or (a ∷ b ∷ c ∷ []) k (pos 0)
datum Others k = pos 0

-- what 32 bits hold of a number
abbrev pub word : ℕ → ℕ
word n = n % 2 ^ 32

-- the numbers of a record whose line starts at a place of the trace
unfoldable pub numbers_of : ℕ → Entry → List ℕ
numbers_of start e =
    word (code_of e.body.time)
    ∷ word (code_of e.body.time / 2 ^ 32)
    ∷ word e.line
    ∷ word start
    ∷ (e.body.processor % 64 + 64 * role_code e.body.role + 256 * values_code e.body.values)
    ∷ word (code_of e.body.kind)
    ∷ word (code_of e.body.event)
    ∷ word (code_of (datum e.body.values 0))
    ∷ word (code_of (datum e.body.values 1))
    ∷ word (code_of (datum e.body.values 2))
    ∷ []

-- an entry that its numbers hold whole
pub record Small (e : Entry) : Type 0 where
  pub line : e.line < 2 ^ 32
  pub tidy : TidyRecord e.body

-- ---- numbers as a record

-- a number, 0 where there is none
abbrev pub number_at : List ℕ → ℕ → ℕ
number_at l k = get_or l k 0

-- the signed number whose code stands at a place
abbrev pub whole_at : List ℕ → ℕ → ℤ
whole_at l k = decoded (number_at l k)

unfoldable pub role_from : ℕ → Message → Role
role_from code m = cond (eqb code 1) (Send m) (cond (eqb code 2) (Receive m) Neither)

unfoldable pub values_from : ℕ → (a b c : ℤ) → Data
values_from code a b c = cond (eqb code 1) (Three a b c) Others

-- the three data as a message: a length and a processor are not negative, so that half the code is the number
unfoldable pub message_from : List ℕ → Message
message_from l = record { length = number_at l 7 / 2; tag = whole_at l 8; peer = number_at l 9 / 2 % 64 }

-- the record whose numbers stand in front
unfoldable pub entry_of : List ℕ → Entry
entry_of l =
    record {
      line = number_at l 2;
      body = record {
        time = decoded (number_at l 0 + 2 ^ 32 * number_at l 1);
        processor = number_at l 4 % 64;
        kind = whole_at l 5;
        event = whole_at l 6;
        values = values_from (number_at l 4 / 256) (whole_at l 7) (whole_at l 8) (whole_at l 9);
        role = role_from (number_at l 4 / 64 % 4) (message_from l);
      };
    }

-- ---- the store

-- the record at place i, and one that says nothing where there is no such place
unfoldable pub entry_from : List ℕ → ℕ → Entry
entry_from l i = cond (ltb i (capacity l)) (entry_of (drop (width * i) l)) no_entry

-- where the line of the record at place i starts in the trace
unfoldable pub start_from : List ℕ → ℕ → ℕ
start_from l i = cond (ltb i (capacity l)) (number_at (drop (width * i) l) 3) 0

-- the first n records
unfoldable pub entries_in : List ℕ → ℕ → List Entry
entries_in l n = listed n (entry_from l)

-- a record put at place i; nothing is touched where there is no room
unfoldable pub put_at : List ℕ → ℕ → ℕ → Entry → List ℕ
put_at l i start e = cond (ltb i (capacity l)) (take (width * i) l ++ numbers_of start e ++ drop (width * i + width) l) l

-- records laid one after the other, with where each line starts
unfoldable pub laid : (ℕ → ℕ) → List Entry → List ℕ
laid start [] = []
laid start (e ∷ es) = numbers_of (start e.line) e ++ laid start es

-- a store with these records in its first places, and after them what it held
unfoldable pub stored : (ℕ → ℕ) → List Entry → List ℕ → List ℕ
stored start es l = laid start es ++ drop (width * length es) l

-- each of the entries is small
unfoldable pub AllSmall : List Entry → Type 0
AllSmall [] = Unit
AllSmall (e ∷ es) = Small e × AllSmall es

-- ---- for the readers of one part

-- p is the processor that the entry is on, one of sixty-four
pub record On (e : Entry) (p : ℕ) : Type 0 where
  pub is : p ≡ e.body.processor
  pub low : p < 64
