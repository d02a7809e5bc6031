-- Document 01, "One line, one record" and "Within a line": what a line comes to, without its LF. LF is 10 and a space is 32. A refusal
-- names the field that decides, counted from 0, and the fifth change request asks for the column of that.
use Rattle.std.specs.Prelude.{ℕ, zero, suc, List, [], ◌∷◌, Bool, true, false, cond, ◌&&◌, length, take, drop, ℤ, pos, nat_abs, ltb, leb, eqb, Option, Result, Some, None, Ok, Err, option_map}
use Rattle.std.specs.Int.Signed.{le_z}
use Rattle.octets.specs.Octets.{index_of}
use Rattle.paper.specs.Tests.{eq_z, up_to, minus, one_of}
use Rattle.paper.specs.Forms.{whole_of, time_of, times_quoted, numbers_quoted}
use Rattle.paper.specs.Events.{listed_kind, is_statistics, standing_for, send_events, receive_events}
use Rattle.paper.specs.declared.Choice.{Choice}
use Rattle.paper.specs.declared.Choice.TheVariants.{Strict, Lenient}
use Rattle.paper.specs.declared.Standing.{Standing}
use Rattle.paper.specs.declared.Fault.{Fault}
use Rattle.paper.specs.declared.Head.{Head}
use Rattle.paper.specs.declared.Data.{Data}
use Rattle.paper.specs.declared.Data.TheVariants.{Three, Others}
use Rattle.paper.specs.declared.Part.{Part}
use Rattle.paper.specs.declared.Role.{Role}
use Rattle.paper.specs.declared.Role.TheVariants.{Neither, Send, Receive}
use Rattle.paper.specs.declared.Message.{Message}
use Rattle.paper.specs.declared.Record.{Record}
use Rattle.paper.specs.declared.Line.{Line}
use Rattle.paper.specs.declared.Line.TheVariants.{Refused, Passed, Listed}

-- ---- fields

-- "Fields are the runs of bytes between single spaces": the first one
unfoldable pub field : List ℕ → List ℕ
field l = take (index_of 32 l) l

-- what stands after the space that ends the first field
unfoldable pub after : List ℕ → List ℕ
after l = drop (suc (index_of 32 l)) l

-- a space ends the first field, so that another one follows
unfoldable pub goes_on : List ℕ → Bool
goes_on l = ltb (index_of 32 l) (length l)

-- the fields after the first one; none where the line ends with it
unfoldable pub rest : List ℕ → Option (List ℕ)
rest l = cond (goes_on l) (Some (after l)) None

-- there are more than n fields
unfoldable pub fields_above : ℕ → List ℕ → Bool
fields_above zero l = true
fields_above (suc n) l = goes_on l && fields_above n (after l)

-- the first field read in a form, with the fields after it, or nothing where it is bad or not there
pub data First : Type 0 where
  nothing : First
  first : ℤ → Option (List ℕ) → First

abbrev pub on_field {ℓ} : {A : Type ℓ} → Option ℤ → A → (ℤ → A) → A
on_field (Some v) bad more = more v
on_field None bad more = bad

unfoldable pub first_of : (List ℕ → Option ℤ) → Option (List ℕ) → First
first_of form None = nothing
first_of form (Some l) = on_field (form (field l)) nothing (λ v. first v (rest l))

abbrev pub on_first {ℓ} : {A : Type ℓ} → First → A → (ℤ → Option (List ℕ) → A) → A
on_first nothing bad more = bad
on_first (first v fields) bad more = more v fields

-- ---- the six fields

-- "Number of data fields: 0 to 999"
unfoldable pub count_of : List ℕ → Option ℤ
count_of s = on_field (whole_of s) None (λ v. cond (up_to 999 v) (Some v) None)

-- the six fields with what follows them, or the fault and the field that has it, counted from 0
pub data Begun : Type 0 where
  bad : Fault → ℕ → Begun
  six : Head → Option (List ℕ) → Begun

-- the last three: processor, process, number of data fields
unfoldable pub place_of : ℤ → ℤ → ℤ → Option (List ℕ) → Begun
place_of kind event time fields =
    on_first (first_of whole_of fields) (bad Fault.Form 3) (λ processor fields₁.
    on_first (first_of whole_of fields₁) (bad Fault.Form 4) (λ process fields₂.
    on_first (first_of count_of fields₂) (bad Fault.Form 5) (λ count fields₃.
    six (record { kind = kind; event = event; time = time; processor = processor; process = process; count = nat_abs count }) fields₃)))

-- all six, left to right: record type, event type, timestamp, and the three above
unfoldable pub six_of : Option (List ℕ) → Begun
six_of fields =
    on_first (first_of whole_of fields) (bad Fault.Form 0) (λ kind fields₁.
    on_first (first_of whole_of fields₁) (bad Fault.Form 1) (λ event fields₂.
    on_first (first_of time_of fields₂) (bad Fault.Stamp 2) (λ time fields₃.
    place_of kind event time fields₃)))

-- "fewer than six fields (5); the six fields left to right (5 or 6), the data count here as 0 to 999": with fewer the sixth is missing
unfoldable pub head_of : List ℕ → Begun
head_of l = cond (fields_above 5 l) (six_of (Some l)) (bad Fault.Form 5)

-- ---- an unlisted line

-- "with a data count above zero a space and at least one more byte must follow, otherwise LF. Its other bytes are free."
unfoldable pub good_end : ℕ → Option (List ℕ) → Bool
good_end zero None = true
good_end zero (Some l) = false
good_end (suc n) None = false
good_end (suc n) (Some l) = ltb 0 (length l)

-- the field that makes a line unlisted: the record type, which is looked at first, or else the event type
unfoldable pub unknown : Head → ℕ
unknown h = cond (listed_kind h.kind) 1 0

-- "unlisted, under strict", "Lenient passes over it"
unfoldable pub step_over : Choice → Head → Line
step_over Strict h = Refused Fault.Unlisted (Some (unknown h))
step_over Lenient h = Passed

-- "For an unlisted line its end (5) is checked before 7 or passing."
unfoldable pub unlisted : Choice → Head → Option (List ℕ) → Line
unlisted choice h fields = cond (good_end h.count fields) (step_over choice h) (Refused Fault.Form (Some 6))

-- ---- the data of a listed line, or the field behind the six that is bad, missing or too many

-- some numbers, or the field that is bad, missing or too many
pub data Numbers : Type 0 where
  wrong : ℕ → Numbers
  numbers : List ℤ → Numbers

abbrev pub pushed : ℤ → Numbers → Numbers
pushed v (wrong k) = wrong k
pushed v (numbers vs) = numbers (v ∷ vs)

-- exactly n fields, each in the form, from field k on
unfoldable pub values_of : (List ℕ → Option ℤ) → ℕ → ℕ → Option (List ℕ) → Numbers
values_of form k zero None = numbers []
values_of form k zero (Some l) = wrong k
values_of form k (suc n) fields = on_first (first_of form fields) (wrong k) (λ v fields₁. pushed v (values_of form (suc k) n fields₁))

-- data under descriptor 2
unfoldable pub as_wholes : Numbers → Result Data ℕ
as_wholes (wrong k) = Err k
as_wholes (numbers []) = Ok Others
as_wholes (numbers (a ∷ [])) = Ok Others
as_wholes (numbers (a ∷ b ∷ [])) = Ok Others
as_wholes (numbers (a ∷ b ∷ c ∷ [])) = Ok (Three a b c)
as_wholes (numbers (a ∷ b ∷ c ∷ d ∷ more)) = Ok Others

-- data under descriptor 5, or none at all
unfoldable pub as_others : Numbers → Result Data ℕ
as_others (wrong k) = Err k
as_others (numbers vs) = Ok Others

-- "Descriptor in a listed record: 2 (each datum a whole number) or 5 (each datum in the form of a time). The data are exactly as
-- many as stated."
unfoldable pub described : ℕ → ℤ → Option (List ℕ) → Result Data ℕ
described n descriptor fields =
    cond (eq_z descriptor (pos 2)) (as_wholes (values_of whole_of 7 n fields))
    (cond (eq_z descriptor (pos 5)) (as_others (values_of time_of 7 n fields)) (Err 6))

-- "only if that number is above zero, a descriptor and the data", "in a listed record at most 16"
unfoldable pub data_of : ℕ → Option (List ℕ) → Result Data ℕ
data_of zero fields = as_others (values_of whole_of 6 zero fields)
data_of (suc n) fields =
    cond (leb (suc n) 16) (on_first (first_of whole_of fields) (Err 6) (λ descriptor fields₁. described (suc n) descriptor fields₁))
    (Err 5)

-- ---- the data of a statistics line

-- some pairs, an event type and what is told of it, or the field that is bad, missing or too many
pub data Pairs : Type 0 where
  unpaired : ℕ → Pairs
  pairs : List (ℤ × ℤ) → Pairs

abbrev pub paired : ℤ → ℤ → Pairs → Pairs
paired event v (unpaired k) = unpaired k
paired event v (pairs ps) = pairs ((event, v) ∷ ps)

-- exactly n pairs from field k on, each a whole number and then a field in the form
unfoldable pub pairs_of : (List ℕ → Option ℤ) → ℕ → ℕ → Option (List ℕ) → Pairs
pairs_of form k zero None = pairs []
pairs_of form k zero (Some l) = unpaired k
pairs_of form k (suc n) fields =
    on_first (first_of whole_of fields) (unpaired k) (λ event fields₁.
    on_first (first_of form fields₁) (unpaired (suc k)) (λ v fields₂.
    paired event v (pairs_of form (suc (suc k)) n fields₂)))

-- "The descriptor is the quoted text "%d%lf" for times, or "%d%d" for the other two"
unfoldable pub quoted_for : ℤ → List ℕ → Option ℤ
quoted_for kind = cond (eq_z kind (minus 101)) times_quoted numbers_quoted

-- what is told of an event: a time, or a whole number
unfoldable pub told_for : ℤ → List ℕ → Option ℤ
told_for kind = cond (eq_z kind (minus 101)) time_of whole_of

-- "the data count counts pairs, at most 16"; with none there is no descriptor
unfoldable pub pairs_for : ℤ → ℕ → Option (List ℕ) → Pairs
pairs_for kind zero fields = pairs_of (told_for kind) 6 zero fields
pairs_for kind (suc n) fields =
    cond (leb (suc n) 16)
    (on_first (first_of (quoted_for kind) fields) (unpaired 6) (λ descriptor fields₁. pairs_of (told_for kind) 7 (suc n) fields₁))
    (unpaired 5)

-- nothing depends on them in the record
unfoldable pub as_pairs : Pairs → Result Data ℕ
as_pairs (unpaired k) = Err k
as_pairs (pairs ps) = Ok Others

-- ---- a listed line

-- the fields behind the six, by the record type
unfoldable pub values_in : ℤ → ℕ → Option (List ℕ) → Result Data ℕ
values_in kind n fields = cond (is_statistics kind) (as_pairs (pairs_for kind n fields)) (data_of n fields)

-- "processor outside 0 to 63 or process not 0", or else the processor
unfoldable pub placed : ℤ → ℤ → Option ℕ
placed processor process = cond (up_to 63 processor && eq_z process (pos 0)) (Some (nat_abs processor)) None

-- of the two the field that is bad, left to right
unfoldable pub misplaced : Head → ℕ
misplaced h = cond (up_to 63 h.processor) 4 3

-- "A send is an entry record .. A receive is an exit record", each of its event types
unfoldable pub part_of : ℤ → ℤ → Part
part_of kind event =
    cond (eq_z kind (minus 3) && one_of send_events event) Part.Sends
    (cond (eq_z kind (minus 4) && one_of receive_events event) Part.Receives Part.Neither)

-- "its three data under descriptor 2 are length, message type, destination [source]. .. Length is 0 or more; the named
-- processor is 0 to 63." "Length, type and processor stand where those tables put them; 10 asks for the number of data given there": the
-- report's Tables 7 and 8 have all three at the same places of every send and receive, and as many, "4 (3)"
unfoldable pub message_of : Data → Option Message
message_of (Three length tag peer) =
    cond (le_z (pos 0) length && up_to 63 peer) (Some (record { length = nat_abs length; tag = tag; peer = nat_abs peer })) None
message_of Others = None

-- the field that a send or receive without its message lacks: "the data count's if that is wrong, else the descriptor's if it isn't 2, else
-- the first bad datum's"
unfoldable pub lacking : Head → Data → ℕ
lacking h (Three length tag peer) = cond (le_z (pos 0) length) 9 7
lacking h Others = cond (eqb h.count 3) 6 5

-- none for "a send or receive without its three good data"
unfoldable pub role_of : Part → Data → Option Role
role_of Part.Neither d = Some Neither
role_of Part.Sends d = option_map Send (message_of d)
role_of Part.Receives d = option_map Receive (message_of d)

-- a record on a processor, as its line has it
abbrev pub record_of : Head → ℕ → Data → Role → Record
record_of h processor values role =
    record { time = h.time; processor = processor; kind = h.kind; event = h.event; values = values; role = role }

unfoldable pub with_role : Head → ℕ → Data → Option Role → Line
with_role h processor values None = Refused Fault.NoMessage (Some (lacking h values))
with_role h processor values (Some role) = Listed (record_of h processor values role)

-- "data (5), 10"
unfoldable pub with_data : Head → ℕ → Part → Result Data ℕ → Line
with_data h processor part (Err k) = Refused Fault.Form (Some k)
with_data h processor part (Ok values) = with_role h processor values (role_of part values)

-- "then 9"
unfoldable pub on_place : Head → Option (List ℕ) → Option ℕ → Line
on_place h fields None = Refused Fault.Place (Some (misplaced h))
on_place h fields (Some processor) = with_data h processor (part_of h.kind h.event) (values_in h.kind h.count fields)

-- "then 9, data (5), 10"
unfoldable pub listed_line : Head → Option (List ℕ) → Line
listed_line h fields = on_place h fields (placed h.processor h.process)

-- ---- a line

-- "event not handled (8), event type (7 or passed over)"
unfoldable pub sorted : Choice → Head → Option (List ℕ) → Standing → Line
sorted choice h fields Standing.NotHandled = Refused Fault.NotHandled (Some 1)
sorted choice h fields Standing.Unlisted = unlisted choice h fields
sorted choice h fields Standing.Message = listed_line h fields
sorted choice h fields Standing.Listed = listed_line h fields

-- "Next the record type (7 or passed over)"
unfoldable pub begun : Choice → Begun → Line
begun choice (bad fault k) = Refused fault (Some k)
begun choice (six h fields) =
    cond (listed_kind h.kind) (sorted choice h fields (standing_for h.kind h.event)) (unlisted choice h fields)

unfoldable pub line_of : Choice → List ℕ → Line
line_of choice l = begun choice (head_of l)
