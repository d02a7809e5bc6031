-- The eighth change request, "Check the statistics records": "Those with event field -1 are compared, pair by pair, with that processor's
-- earlier records of the pair's event at original times". Records are earlier in the file.
use Rattle.std.specs.Prelude.{ℕ, zero, suc, ◌+◌, ◌-◌, Bool, true, false, cond, ◌&&◌, ◌||◌, not, List, [], ◌∷◌, take, ℤ, pos, nat_abs, ◌+ℤ◌, ◌-ℤ◌, leb, eqb, Option, Result, Some, None, Ok}
use Rattle.paper.specs.Tests.{eq_z, minus, one_of}
use Rattle.paper.specs.Columns.{whole_line, refused_at}
use Rattle.paper.specs.Events.{is_statistics, standing_of}
use Rattle.paper.specs.Line.{Begun, bad, six, Pairs, unpaired, pairs, pairs_for, head_of}
use Rattle.paper.specs.Matching.{is_on, count_if}
use Rattle.paper.specs.Reading.{Lines, done, unended, ended, lines_of}
use Rattle.paper.specs.declared.Asked.{Asked}
use Rattle.paper.specs.declared.Entry.{Entry}
use Rattle.paper.specs.declared.Fault.TheVariants as Fault
use Rattle.paper.specs.declared.Record.{Record}
use Rattle.paper.specs.declared.Role.{Role}
use Rattle.paper.specs.declared.Role.TheVariants.{Neither, Send, Receive}
use Rattle.paper.specs.declared.Standing.{Standing}
use Rattle.paper.specs.declared.Refusal.{Refusal}

-- ---- the records that a pair tells of

-- of a record type and an event, on a processor
unfoldable pub is_of : (kind event : ℤ) → ℕ → Entry → Bool
is_of kind event processor e = is_on processor e && eq_z e.body.event event && eq_z e.body.kind kind

-- how many there are among some records: the marks, the entries and the exits of an event
abbrev pub marks_of : List Entry → ℕ → ℤ → ℕ
marks_of es processor event = count_if (is_of (minus 2) event processor) es

abbrev pub entries_of : List Entry → ℕ → ℤ → ℕ
entries_of es processor event = count_if (is_of (minus 3) event processor) es

abbrev pub exits_of : List Entry → ℕ → ℤ → ℕ
exits_of es processor event = count_if (is_of (minus 4) event processor) es

-- ---- sums over those that pass a test

-- of their times
unfoldable pub sum_if : (Entry → Bool) → List Entry → ℤ
sum_if test [] = pos 0
sum_if test (e ∷ es) = cond (test e) (e.body.time +ℤ sum_if test es) (sum_if test es)

-- the length of the message that a record sends or receives
unfoldable pub length_in : Role → ℕ
length_in Neither = 0
length_in (Send m) = m.length
length_in (Receive m) = m.length

-- of these lengths
unfoldable pub lengths_if : (Entry → Bool) → List Entry → ℕ
lengths_if test [] = 0
lengths_if test (e ∷ es) = cond (test e) (length_in e.body.role + lengths_if test es) (lengths_if test es)

-- ---- one pair, after the processor's earlier records: an event, and what is told of it

-- "count is entries plus marks"; "a count .. of -1 .. [isn't] compared"
unfoldable pub count_differs : List Entry → ℕ → ℤ → ℤ → Bool
count_differs es processor event told =
    not (eq_z told (minus 1)) && not (eq_z told (pos (entries_of es processor event + marks_of es processor event)))

-- "the sum of exits less the sum of entries"
unfoldable pub spent : List Entry → ℕ → ℤ → ℤ
spent es processor event = sum_if (is_of (minus 4) event processor) es -ℤ sum_if (is_of (minus 3) event processor) es

-- "within one microsecond for each entry, and only where they are equally many"; "a time of -1.000000 .. [isn't] compared"
unfoldable pub time_differs : List Entry → ℕ → ℤ → ℤ → Bool
time_differs es processor event told =
    not (eq_z told (minus 1000000))
    && eqb (entries_of es processor event) (exits_of es processor event)
    && not (leb (nat_abs (told -ℤ spent es processor event)) (entries_of es processor event))

-- "volume of -21, -51 or -52 is the sum of its sends' or receives' lengths": the record type of these, by the event; none for "any other
-- volume"
unfoldable pub volume_kind : ℤ → Option ℤ
volume_kind event =
    cond (eq_z event (minus 21)) (Some (minus 3)) (cond (one_of (minus 51 ∷ minus 52 ∷ []) event) (Some (minus 4)) None)

abbrev pub on_volume : List Entry → ℕ → ℤ → ℤ → Option ℤ → Bool
on_volume es processor event told None = false
on_volume es processor event told (Some kind) = not (eq_z told (pos (lengths_if (is_of kind event processor) es)))

-- "a .. volume of -1 .. and any other volume aren't compared"
unfoldable pub volume_differs : List Entry → ℕ → ℤ → ℤ → Bool
volume_differs es processor event told = not (eq_z told (minus 1)) && on_volume es processor event told (volume_kind event)

-- "A pair whose event isn't listed .. [isn't] compared"
unfoldable pub is_listed : Standing → Bool
is_listed Standing.Listed = true
is_listed Standing.Message = true
is_listed Standing.NotHandled = false
is_listed Standing.Unlisted = false

-- "-101 (times), -102 (counts) and -103 (volumes)"
unfoldable pub differs : ℤ → List Entry → ℕ → ℤ → ℤ → Bool
differs kind es processor event told =
    is_listed (standing_of event)
    && cond (eq_z kind (minus 101)) (time_differs es processor event told)
    (cond (eq_z kind (minus 102)) (count_differs es processor event told) (volume_differs es processor event told))

-- ---- a line

unfoldable pub any_differs : ℤ → List Entry → ℕ → List (ℤ × ℤ) → Bool
any_differs kind es processor [] = false
any_differs kind es processor (p ∷ ps) = differs kind es processor p.0 p.1 || any_differs kind es processor ps

-- "Those with event field -1 are compared"
unfoldable pub is_compared : Record → Bool
is_compared r = is_statistics r.kind && eq_z r.event (minus 1)

-- the pairs of a statistics line; none where it is none
abbrev pub in_pairs : Pairs → List (ℤ × ℤ)
in_pairs (unpaired k) = []
in_pairs (pairs ps) = ps

unfoldable pub pairs_behind : Begun → List (ℤ × ℤ)
pairs_behind (bad fault k) = []
pairs_behind (six h fields) = in_pairs (pairs_for h.kind h.count fields)

unfoldable pub pairs_in : List ℕ → List (ℤ × ℤ)
pairs_in l = pairs_behind (head_of l)

-- line k of some lines, k counted from 0, without its LF. Each line that is asked for has one; what is said of the others is never asked
unfoldable pub line_in : Lines → ℕ → List ℕ
line_in done k = []
line_in (unended l) k = l
line_in (ended l more) zero = l
line_in (ended l more) (suc k) = line_in more k

-- whether an entry calls for 19 after the earlier ones; "Lines count from 1."
unfoldable pub line_differs : Lines → List Entry → Entry → Bool
line_differs lines es e =
    is_compared e.body && any_differs e.body.kind es e.body.processor (pairs_in (line_in lines (e.line - 1)))

-- ---- all lines

abbrev pub on_differs : Bool → ℕ → Result Unit Refusal → Result Unit Refusal
on_differs false line more = more
on_differs true line more = refused_at Fault.OtherStatistics (whole_line line)

-- "A difference is refusal 19 at the first statistics line in the file that has one", among the entries from place i on
unfoldable pub compared_from : Lines → List Entry → ℕ → List Entry → Result Unit Refusal
compared_from lines es i [] = Ok tt
compared_from lines es i (e ∷ more) =
    let later = compared_from lines es (i + 1) more in on_differs (line_differs lines (take i es) e) e.line later

-- "A further number, 0 for off or 1 for on .., switches the comparison"
unfoldable pub statistics_of : Asked → List ℕ → List Entry → Result Unit Refusal
statistics_of a trace es = cond (eqb a.statistics 1) (compared_from (lines_of trace) es 0 es) (Ok tt)

-- ---- sums as they are kept

-- The code keeps sums of times modulo 2^64, each time as its distance from one below the least that the format holds. With at most so many
-- records this tells exits from entries exactly: both sums are then below 2^64 in what they differ by, with the time that is told.
unfoldable pub summed : ℕ
summed = 18445
