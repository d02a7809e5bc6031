-- Rows 5 to 14 of document 01's table: what is bad in a line, given without its LF, and in a receive. What "Within a line" looks at
-- earlier is good in each row. Rows 5 to 10 name the field that decides, counted from 0: "After document 01's order the leftmost fault
-- decides; a field too many is one."
use Rattle.std.specs.Prelude.{ℕ, zero, suc, ◌+◌, ◌≤◌, ◌<◌, ◌≡◌, ◌⊎◌, true, false, cond, List, [], ◌∷◌, length, replicate, ℤ, pos, ◌≤ℤ◌, ◌<ℤ◌, Option, Result, Some, None, Ok}
use Rattle.paper.specs.Tests.{eq_z, up_to, minus}
use Rattle.paper.specs.Text.{bytes_of}
use Rattle.paper.specs.Forms.{whole_of, time_of}
use Rattle.paper.specs.Events.{listed_kind, is_statistics, standing_for}
use Rattle.paper.specs.Line.{field, after, rest, fields_above, count_of, six, head_of, good_end, data_of, told_for, values_in, placed, part_of, line_of}
use Rattle.paper.specs.Reading.{done}
use Rattle.paper.specs.Matching.{entry_at}
use Rattle.paper.specs.Answer.{Inputs}
use Rattle.paper.specs.declared.Choice.{Choice}
use Rattle.paper.specs.declared.Choice.TheVariants.{Strict}
use Rattle.paper.specs.declared.Data.{Data}
use Rattle.paper.specs.declared.Data.TheVariants.{Three}
use Rattle.paper.specs.declared.Entry.{Entry}
use Rattle.paper.specs.declared.Head.{Head}
use Rattle.paper.specs.declared.Line.TheVariants.{Listed}
use Rattle.paper.specs.declared.Message.{Message}
use Rattle.paper.specs.declared.Part.TheVariants as Part
use Rattle.paper.specs.declared.Record.{Record}
use Rattle.paper.specs.declared.Role.TheVariants.{Receive}
use Rattle.paper.specs.declared.Standing.TheVariants as Standing
use Rattle.matching.specs.Belongs.{role, Belongs}
use Rattle.demands.specs.Before.{Below, ComesTo}
use Rattle.demands.specs.Levels.{AtLevels}
use Rattle.demands.specs.Statistics.{NoDifference}

-- ---- the six fields

-- record type, event type, timestamp, processor, process, number of data fields
abbrev pub six_forms : List (List ℕ → Option ℤ)
six_forms = whole_of ∷ whole_of ∷ time_of ∷ whole_of ∷ whole_of ∷ count_of ∷ []

-- "left to right": field k is the first that is not in its form, k counted from 0
pub data FirstBad : List (List ℕ → Option ℤ) → List ℕ → ℕ → Type 0 where
  here : {form : List ℕ → Option ℤ} {forms : List (List ℕ → Option ℤ)} {l : List ℕ} → form (field l) ≡ None → FirstBad (form ∷ forms) l 0
  later : {form : List ℕ → Option ℤ} {forms : List (List ℕ → Option ℤ)} {l : List ℕ} {k : ℕ} (v : ℤ) → form (field l) ≡ Some v
      → FirstBad forms (after l) k → FirstBad (form ∷ forms) l (suc k)

-- all six are good, with the fields after them
pub record Six (l : List ℕ) : Type 0 where
  pub head : Head
  pub fields : Option (List ℕ)
  pub good : head_of l ≡ six head fields

-- ---- a line's standing

-- its record type is unlisted, or else its event type, of which statistics may have any
pub data Unlisted (h : Head) : ℕ → Type 0 where
  by_kind : listed_kind h.kind ≡ false → Unlisted h 0
  by_event : listed_kind h.kind ≡ true → standing_for h.kind h.event ≡ Standing.Unlisted → Unlisted h 1

-- both are listed
abbrev pub ListedHead : Head → Type 0
ListedHead h =
    (listed_kind h.kind ≡ true)
    × ((standing_for h.kind h.event ≡ Standing.Listed) ⊎ (standing_for h.kind h.event ≡ Standing.Message))

-- a listed record, on a processor from 0 to 63 and in process 0
pub record OnPlace (l : List ℕ) : Type 0 where
  pub six : Six l
  pub listed : ListedHead six.head
  pub processor : ℕ
  pub place : placed six.head.processor six.head.process ≡ Some processor

-- ---- its data

abbrev pub data_in : {l : List ℕ} → Six l → Result Data ℕ
data_in s = values_in s.head.kind s.head.count s.fields

-- of fields in these forms, left to right: the one at place k is the first that is bad or missing, or the first too many
pub data FirstWrong : List (List ℕ → Option ℤ) → Option (List ℕ) → ℕ → Type 0 where
  too_many_lem : {l : List ℕ} → FirstWrong [] (Some l) 0
  missing : {form : List ℕ → Option ℤ} {forms : List (List ℕ → Option ℤ)} → FirstWrong (form ∷ forms) None 0
  bad_datum : {form : List ℕ → Option ℤ} {forms : List (List ℕ → Option ℤ)} {l : List ℕ} → form (field l) ≡ None
      → FirstWrong (form ∷ forms) (Some l) 0
  good_datum : {form : List ℕ → Option ℤ} {forms : List (List ℕ → Option ℤ)} {l : List ℕ} {k : ℕ} (v : ℤ) → form (field l) ≡ Some v
      → FirstWrong forms (rest l) k → FirstWrong (form ∷ forms) (Some l) (suc k)

-- "the limit of 16 and the data", of n data and the fields behind the six
pub data BadData : ℕ → Option (List ℕ) → ℕ → Type 0 where
  -- "in a listed record at most 16"
  above_limit : {n : ℕ} {fields : Option (List ℕ)} → 16 < n → BadData n fields 5
  -- "only if that number is above zero, a descriptor and the data"
  not_stated : {l : List ℕ} → BadData 0 (Some l) 6
  no_descriptor : {n : ℕ} → 0 < n → n ≤ 16 → BadData n None 6
  -- "2 (each datum a whole number) or 5 (each datum in the form of a time)"
  bad_descriptor : {n : ℕ} {l : List ℕ} → 0 < n → n ≤ 16 → ¬ (whole_of (field l) ≡ Some (pos 2)) → ¬ (whole_of (field l) ≡ Some (pos 5))
      → BadData n (Some l) 6
  bad_wholes : {n : ℕ} {l : List ℕ} {k : ℕ} → 0 < n → n ≤ 16 → whole_of (field l) ≡ Some (pos 2) → FirstWrong (replicate n whole_of) (rest l) k
      → BadData n (Some l) (7 + k)
  bad_times : {n : ℕ} {l : List ℕ} {k : ℕ} → 0 < n → n ≤ 16 → whole_of (field l) ≡ Some (pos 5) → FirstWrong (replicate n time_of) (rest l) k
      → BadData n (Some l) (7 + k)

-- ---- the data of a statistics line

-- "The descriptor is the quoted text "%d%lf" for times, or "%d%d" for the other two", by the record type
abbrev pub text_for : ℤ → List ℕ
text_for kind = cond (eq_z kind (minus 101)) (bytes_of "\"%d%lf\"") (bytes_of "\"%d%d\"")

-- n pairs, each an event and what is told of it
abbrev pub pair_forms : (List ℕ → Option ℤ) → ℕ → List (List ℕ → Option ℤ)
pair_forms told zero = []
pair_forms told (suc n) = whole_of ∷ told ∷ pair_forms told n

-- what is bad in n pairs, with the fields behind the six
pub data BadPairs (kind : ℤ) : ℕ → Option (List ℕ) → ℕ → Type 0 where
  -- "the data count counts pairs, at most 16"
  pairs_above_limit : {n : ℕ} {fields : Option (List ℕ)} → 16 < n → BadPairs kind n fields 5
  pairs_not_stated : {l : List ℕ} → BadPairs kind 0 (Some l) 6
  no_text : {n : ℕ} → 0 < n → n ≤ 16 → BadPairs kind n None 6
  other_text : {n : ℕ} {l : List ℕ} → 0 < n → n ≤ 16 → ¬ (field l ≡ text_for kind) → BadPairs kind n (Some l) 6
  bad_pair : {n : ℕ} {l : List ℕ} {k : ℕ} → 0 < n → n ≤ 16 → field l ≡ text_for kind → FirstWrong (pair_forms (told_for kind) n) (rest l) k
      → BadPairs kind n (Some l) (7 + k)

-- ---- 5 to 10

-- 5, "form of a line or of any field but the timestamp (bad data too)"
pub data BadForm (l : List ℕ) : ℕ → Type 0 where
  -- "fewer than six fields": the sixth is missing
  few_fields : fields_above 5 l ≡ false → BadForm l 5
  -- "the six fields left to right (5 or 6)": field 2 is the timestamp
  bad_field : (k : ℕ) → fields_above 5 l ≡ true → FirstBad six_forms l k → ¬ (k ≡ 2) → BadForm l k
  -- "the end of an unlisted line"
  bad_end : (s : Six l) (k : ℕ) → Unlisted s.head k → good_end s.head.count s.fields ≡ false → BadForm l 6
  -- "for a listed one the limit of 16 and the data"
  bad_data : (p : OnPlace l) (k : ℕ) → is_statistics p.six.head.kind ≡ false → BadData p.six.head.count p.six.fields k → BadForm l k
  -- and of a statistics line
  bad_pairs : (p : OnPlace l) (k : ℕ) → is_statistics p.six.head.kind ≡ true
      → BadPairs p.six.head.kind p.six.head.count p.six.fields k → BadForm l k

-- 6, "form of the timestamp"
abbrev pub BadStamp : List ℕ → ℕ → Type 0
BadStamp l k = (fields_above 5 l ≡ true) × FirstBad six_forms l k × (k ≡ 2)

-- 7, "unlisted, under strict"
abbrev pub UnlistedStrict : Choice → List ℕ → ℕ → Type 0
UnlistedStrict choice l k = (s : Six l) × Unlisted s.head k × (good_end s.head.count s.fields ≡ true) × (choice ≡ Strict)

-- 8, "message event not handled"
abbrev pub NotHandled : List ℕ → ℕ → Type 0
NotHandled l k =
    (s : Six l) × (listed_kind s.head.kind ≡ true) × (standing_for s.head.kind s.head.event ≡ Standing.NotHandled) × (k ≡ 1)

-- "processor outside 0 to 63 or process not 0"
pub data OffPlace (h : Head) : ℕ → Type 0 where
  processor_outside : up_to 63 h.processor ≡ false → OffPlace h 3
  process_not_0 : up_to 63 h.processor ≡ true → ¬ (h.process ≡ pos 0) → OffPlace h 4

-- 9, of a listed record
abbrev pub BadPlace : List ℕ → ℕ → Type 0
BadPlace l k = (s : Six l) × ListedHead s.head × OffPlace s.head k

-- "For 10 it is the data count's if that is wrong, else the descriptor's if it isn't 2, else the first bad datum's.": of a record with this
-- many data, the descriptor and the data behind it
pub data Lacks (n : ℕ) (fields : Option (List ℕ)) : ℕ → Type 0 where
  other_count : ¬ (n ≡ 3) → Lacks n fields 5
  other_descriptor : (l : List ℕ) → n ≡ 3 → fields ≡ Some l → ¬ (whole_of (field l) ≡ Some (pos 2)) → Lacks n fields 6
  bad_length : (length tag peer : ℤ) → data_of n fields ≡ Ok (Three length tag peer) → length <ℤ pos 0 → Lacks n fields 7
  bad_peer : (length tag peer : ℤ) → data_of n fields ≡ Ok (Three length tag peer) → pos 0 ≤ℤ length → up_to 63 peer ≡ false
      → Lacks n fields 9

-- 10, "a send or receive without its three good data"
pub record NoMessage (l : List ℕ) (k : ℕ) : Type 0 where
  pub place : OnPlace l
  pub values : Data
  pub well_formed : data_in place.six ≡ Ok values
  pub sends_or_receives : ¬ (part_of place.six.head.kind place.six.head.event ≡ Part.Neither)
  pub lacks : Lacks place.six.head.count place.six.fields k

-- ---- 11 and 12, after these records

-- "time below the last listed time of the same processor"
abbrev pub Backwards : List Entry → Choice → List ℕ → Type 0
Backwards es choice l = (r : Record) × (line_of choice l ≡ Listed r) × Below es r

-- "listed record number 2,049": as many as may be are listed already
abbrev pub TooMany : ℕ → List Entry → Choice → List ℕ → Type 0
TooMany limit es choice l = (r : Record) × (line_of choice l ≡ Listed r) × (¬ Below es r) × (length es ≡ limit)

-- ---- 13 and 14, of the record at place k

-- "receive without a matching send"
abbrev pub NoSend : List Entry → ℕ → Type 0
NoSend es k = (m : Message) × (role es k ≡ Receive m) × ((j : ℕ) → ¬ Belongs es k j)

-- "exactly if the received length is above the sent one"
abbrev pub LongReceive : List Entry → ℕ → Type 0
LongReceive es k = (j : ℕ) × (b : Belongs es k j) × (b.sent.length < b.received.length)

-- "then the first receive in file order that calls for 13 or 14": all lines are good, neither 17 nor 19 is called for, and it calls for
-- this
pub record FirstReceive (i : Inputs) (line : ℕ) (calls : List Entry → ℕ → Type 0) : Type 0 where
  -- one more than there are lines
  pub end : ℕ
  pub comes : ComesTo i end done
  pub levels : AtLevels i.asked comes.before
  pub statistics : NoDifference i.asked i.trace comes.before
  pub place : ℕ
  pub within : place < length comes.before
  pub its_line : (entry_at comes.before place).line ≡ line
  pub is : calls comes.before place
  pub first : (k : ℕ) → k < place → ¬ (NoSend comes.before k ⊎ LongReceive comes.before k)
