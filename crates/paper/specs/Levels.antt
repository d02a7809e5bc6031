-- The first change request, "Say which flags the collector really had": the tracing levels that the caller expects, and those that the
-- marks of each processor tell.
use Rattle.std.specs.Prelude.{ℕ, zero, suc, Bool, true, false, cond, ◌&&◌, List, length, negsuc, eqb, Option, Result, Some, None, Ok, option_map}
use Rattle.paper.specs.Tests.{eq_z}
use Rattle.paper.specs.Columns.{whole_line, refused_at}
use Rattle.paper.specs.Matching.{entry_at, last_of, is_on, last_on}
use Rattle.paper.specs.declared.Asked.{Asked}
use Rattle.paper.specs.declared.Data.{Data}
use Rattle.paper.specs.declared.Data.TheVariants.{Three, Others}
use Rattle.paper.specs.declared.Entry.{Entry}
use Rattle.paper.specs.declared.Fault.TheVariants as Fault
use Rattle.paper.specs.declared.Record.{Record}
use Rattle.paper.specs.declared.Refusal.{Refusal}

-- ---- a mark

-- "with three data under descriptor 2"
unfoldable pub is_three : Data → Bool
is_three (Three a b c) = true
is_three Others = false

-- "Only a -904 mark with three data under descriptor 2 counts."
unfoldable pub counts : Record → Bool
counts r = eq_z r.kind (negsuc 1) && eq_z r.event (negsuc 903) && is_three r.values

abbrev pub is_mark : ℕ → Entry → Bool
is_mark processor e = is_on processor e && counts e.body

-- the last of the first i entries that is a mark of the processor that counts
abbrev pub last_mark : List Entry → ℕ → ℕ → Option ℕ
last_mark es processor i = last_of (is_mark processor) es i

-- ---- a processor

-- "the expected three"
unfoldable pub expected : Asked → Data → Bool
expected a (Three picl user trace) = eq_z picl a.picl && eq_z user a.user && eq_z trace a.trace
expected a Others = false

-- whether there is a last mark, and it has the expected three
unfoldable pub agrees : Asked → List Entry → Option ℕ → Bool
agrees a es None = false
agrees a es (Some k) = expected a (entry_at es k).body.values

-- "if a processor with listed records has no such mark, or its last one differs from the expected three", and then the line, which "is
-- that of its last listed record"; none where there is no such record, or the mark agrees
unfoldable pub off_at : Asked → List Entry → ℕ → Option ℕ
off_at a es processor =
    cond (agrees a es (last_mark es processor (length es))) None (option_map (λ k. (entry_at es k).line) (last_on es processor (length es)))

-- ---- all processors

abbrev pub on_off : Option ℕ → Result Unit Refusal → Result Unit Refusal
on_off None more = more
on_off (Some line) more = refused_at Fault.OtherLevels (whole_line line)

-- "The smallest such processor decides", of n processors from this one on
unfoldable pub levels_from : Asked → List Entry → ℕ → ℕ → Result Unit Refusal
levels_from a es processor zero = Ok tt
levels_from a es processor (suc n) = on_off (off_at a es processor) (levels_from a es (suc processor) n)

-- "A fourth number says 0 for off, as for document 01's samples, or 1 for on"
unfoldable pub levels_of : Asked → List Entry → Result Unit Refusal
levels_of a es = cond (eqb a.levels 1) (levels_from a es 0 64) (Ok tt)
