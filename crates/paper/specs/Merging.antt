-- The sixth change request: two traces merged into one. "Refusal 1 comes first, then 4 to 12 of the first trace, then of the second, then 18,
-- line 0, if both hold a listed record of one processor, then 16; each says which trace it means, 0 for neither, and leaves the room
-- untouched. All else, and 4, 12 and demand 3, is for the reading of the merged bytes."
use Rattle.std.specs.Prelude.{ℕ, ◌+◌, List, [], ◌∷◌, ◌++◌, Bool, false, cond, ◌||◌, length, drop, ℤ, pos, ltb, leb, Option, Result, Some, None, Ok, Err}
use Rattle.std.specs.Int.Signed.{le_z}
use Rattle.paper.specs.Numbers.{number_of}
use Rattle.paper.specs.Forms.{time_of}
use Rattle.paper.specs.Line.{field, after, on_field}
use Rattle.paper.specs.Columns.{nowhere, refused_at}
use Rattle.paper.specs.Reading.{Lines, done, unended, ended, Reading, lines_of, read_of}
use Rattle.paper.specs.Matching.{is_on}
use Rattle.paper.specs.Answer.{longest, choice_of}
use Rattle.paper.specs.declared.Choice.{Choice}
use Rattle.paper.specs.declared.Entry.{Entry}
use Rattle.paper.specs.declared.Fault.{Fault}
use Rattle.paper.specs.declared.Site.{Site}
use Rattle.paper.specs.declared.Which.{Which}
use Rattle.paper.specs.declared.Which.TheVariants.{Neither, First, Second}
use Rattle.paper.specs.declared.Tally.{Tally}
use Rattle.paper.specs.declared.Merged.{Merged}
use Rattle.paper.specs.declared.Refusal.{Refusal}
use Rattle.paper.specs.declared.Unmerged.{Unmerged}
use Rattle.paper.specs.declared.Joined.{Joined}

-- ---- the merged bytes

-- a line's timestamp, its third field; a line that is not refused has a good one
unfoldable pub stamp_of : List ℕ → ℤ
stamp_of l = on_field (time_of (field (after (after l)))) (pos 0) (λ t. t)

-- "at each step the line with the smaller timestamp goes next, the first trace's where equal." Each line of a trace that is merged has its
-- LF; what is said of one without is never asked
unfoldable pub merged_lines : Lines → Lines → Lines
merged_lines done y = y
merged_lines (unended l) y = unended l
merged_lines (ended l x) done = ended l x
merged_lines (ended l x) (unended k) = ended l (merged_lines x (unended k))
merged_lines (ended l x) (ended k y) =
    cond (le_z (stamp_of l) (stamp_of k)) (ended l (merged_lines x (ended k y))) (ended k (merged_lines (ended l x) y))

-- the bytes of some lines
unfoldable pub bytes_in : Lines → List ℕ
bytes_in done = []
bytes_in (unended l) = l
bytes_in (ended l x) = l ++ (10 ∷ bytes_in x)

unfoldable pub merged_bytes : List ℕ → List ℕ → List ℕ
merged_bytes first second = bytes_in (merged_lines (lines_of first) (lines_of second))

-- ---- a trace by itself

-- "at most 2,048 listed records", of each of the two
unfoldable pub most_alone : ℕ
most_alone = 2048

abbrev pub read_alone : Choice → List ℕ → Reading
read_alone choice s = read_of choice most_alone s

-- "4 to 12"
unfoldable pub stop_alone : Choice → List ℕ → Result Unit Refusal
stop_alone choice s = let read = (read_alone choice s).stop in cond (leb (length s) longest) read (refused_at Fault.LongTrace nowhere)

-- ---- 18

unfoldable pub holds_on : ℕ → List Entry → Bool
holds_on processor [] = false
holds_on processor (e ∷ es) = is_on processor e || holds_on processor es

-- "both hold a listed record of one processor"
unfoldable pub share_one : List Entry → List Entry → Bool
share_one es [] = false
share_one es (f ∷ fs) = holds_on f.body.processor es || share_one es fs

-- ---- both by themselves: what was counted of either, or why they are not merged

abbrev pub tally_of : Reading → Tally
tally_of r = record { listed = length r.entries; passed = r.state.passed }

-- "then 18, line 0"
unfoldable pub on_readings : Reading → Reading → Result (Tally × Tally) Unmerged
on_readings a b =
    cond (share_one a.entries b.entries)
    (Err (record { fault = Fault.SharedProcessor; which = Neither; site = nowhere }))
    (Ok (tally_of a, tally_of b))

-- "then of the second"
unfoldable pub on_second_trace : Choice → (first second : List ℕ) → Result Unit Refusal → Result (Tally × Tally) Unmerged
on_second_trace choice first second (Err refusal) = Err (record { fault = refusal.fault; which = Second; site = refusal.site })
on_second_trace choice first second (Ok tt) = on_readings (read_alone choice first) (read_alone choice second)

-- "then 4 to 12 of the first trace"
unfoldable pub on_first_trace : Choice → (first second : List ℕ) → Result Unit Refusal → Result (Tally × Tally) Unmerged
on_first_trace choice first second (Err refusal) = Err (record { fault = refusal.fault; which = First; site = refusal.site })
on_first_trace choice first second (Ok tt) = on_second_trace choice first second (stop_alone choice second)

unfoldable pub both_of : Choice → (first second : List ℕ) → Result (Tally × Tally) Unmerged
both_of choice first second = on_first_trace choice first second (stop_alone choice first)

-- ---- the call

-- What a merging is given, and the room that it is lent.
pub record Merging : Type 0 where
  pub first : List ℕ
  pub second : List ℕ
  pub choice : ℕ
  pub room : List ℕ

-- What it comes to, and the room afterwards.
pub record Mergence : Type 0 where
  pub joint : Result Joined Unmerged
  pub room : List ℕ

-- "and leaves the room untouched"
unfoldable pub unmerged : Merging → Fault → Which → Site → Mergence
unmerged i fault which site = record { joint = Err (record { fault = fault; which = which; site = site }); room = i.room }

abbrev pub lines_in : Tally → ℕ
lines_in t = t.listed + t.passed

-- bytes of the room behind the merged ones stay
unfoldable pub joined : Merging → Tally → Tally → List ℕ → Mergence
joined i a b bytes =
    record {
      joint = Ok (record { lines = lines_in a + lines_in b; written = length bytes; first = a; second = b });
      room = bytes ++ drop (length bytes) i.room;
    }

-- "then 16"
unfoldable pub on_merged : Merging → Tally → Tally → List ℕ → Mergence
on_merged i a b bytes = cond (ltb (length i.room) (length bytes)) (unmerged i Fault.NoRoom Neither nowhere) (joined i a b bytes)

unfoldable pub on_both : Merging → Result (Tally × Tally) Unmerged → Mergence
on_both i (Err why) = unmerged i why.fault why.which why.site
on_both i (Ok (a, b)) = on_merged i a b (merged_bytes i.first i.second)

-- "Refusal 1 comes first"
unfoldable pub on_heard : Merging → Option Choice → Mergence
on_heard i None = unmerged i Fault.BadChoice Neither nowhere
on_heard i (Some choice) = on_both i (both_of choice i.first i.second)

unfoldable pub join : Merging → Mergence
join i = on_heard i (choice_of i.choice)

-- ---- in numbers

-- "each says which trace it means, 0 for neither"
unfoldable pub which_of : Which → ℕ
which_of Neither = 0
which_of First = 1
which_of Second = 2

unfoldable pub merged_of : Result Joined Unmerged → Merged
merged_of (Err why) =
    record { number = number_of why.fault; which = which_of why.which; line = why.site.line; column = why.site.column; written = 0 }
merged_of (Ok all) = record { number = 0; which = 0; line = 0; column = 0; written = all.written }

-- The answer in numbers, and the room afterwards.
pub record MergeOutcome : Type 0 where
  pub answer : Merged
  pub room : List ℕ

unfoldable pub merge : Merging → MergeOutcome
merge i = let m = join i in record { answer = merged_of m.joint; room = m.room }
