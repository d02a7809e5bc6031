-- Document 01's table of numbers, with 17 of the first change request, 18 of the sixth and 19 of the eighth, row by row: "given exactly
-- when", with the line and, as the fifth one asks, the column. Each row has the checks before it passed.
use Rattle.std.specs.Prelude.{ℕ, ◌<◌, ◌≡◌, ◌⊎◌, true, List, length, ℤ}
use Rattle.paper.specs.Columns.{past_end, column_of, nowhere}
use Rattle.paper.specs.Reading.{unended}
use Rattle.paper.specs.Clock.{Sound, settle, settled}
use Rattle.paper.specs.Answer.{Inputs, given, most, written}
use Rattle.paper.specs.declared.Choice.{Choice}
use Rattle.paper.specs.declared.Fault.{Fault}
use Rattle.paper.specs.declared.Site.{Site}
use Rattle.demands.specs.Steps.{Chosen, Unheard, RightSizes, LowLatencies, ShortTrace, Matched, waits}
use Rattle.demands.specs.Before.{ComesTo, AtLine}
use Rattle.demands.specs.Levels.{OtherLevels}
use Rattle.demands.specs.Statistics.{OtherStatistics}
use Rattle.demands.specs.Rows.{BadForm, BadStamp, UnlistedStrict, NotHandled, BadPlace, NoMessage, Backwards, TooMany, NoSend, LongReceive, FirstReceive}

-- a line that is bad in a field, and the column where that begins
pub record InField (i : Inputs) (site : Site) (bad : Choice → List ℕ → ℕ → Type 0) : Type 0 where
  pub at : AtLine i site.line
  pub field : ℕ
  pub is : bad at.comes.choice at.line field
  pub column : site.column ≡ column_of field at.line

-- "Where .. LF is missing, the column is one past the line's last byte"
pub record NoEnd (i : Inputs) (site : Site) : Type 0 where
  pub line : List ℕ
  pub comes : ComesTo i site.line (unended line)
  pub column : site.column ≡ past_end line

unfoldable pub When : Inputs → Fault → Site → Type 0
-- "choice is neither 1 (strict) nor 2 (lenient)"; of the levels "0 for off .. or 1 for on; any other is refusal 1"; of the statistics "0 for
-- off or 1 for on, otherwise refusal 1"
When i Fault.BadChoice site = Unheard i.asked × (site ≡ nowhere)
-- "table or times of the wrong length", and "A share above 1,000 is refusal 2"
When i Fault.WrongLength site = (choice : Choice) × Chosen i choice × (¬ RightSizes i) × (site ≡ nowhere)
-- "a latency above 1,000,000"
When i Fault.HighLatency site = (choice : Choice) × Chosen i choice × RightSizes i × (¬ LowLatencies i) × (site ≡ nowhere)
-- "trace above 65,536 bytes"
When i Fault.LongTrace site =
    (choice : Choice) × Chosen i choice × RightSizes i × LowLatencies i × (¬ ShortTrace i) × (site ≡ nowhere)
-- "no LF at its end (5)", "form of a line or of any field but the timestamp (bad data too)"
When i Fault.Form site = NoEnd i site ⊎ InField i site (λ choice. BadForm)
-- "form of the timestamp"
When i Fault.Stamp site = InField i site (λ choice. BadStamp)
-- "unlisted, under strict"
When i Fault.Unlisted site = InField i site UnlistedStrict
-- "message event not handled"
When i Fault.NotHandled site = InField i site (λ choice. NotHandled)
-- "listed record: processor outside 0 to 63 or process not 0"
When i Fault.Place site = InField i site (λ choice. BadPlace)
-- "a send or receive without its three good data"
When i Fault.NoMessage site = InField i site (λ choice. NoMessage)
-- "time below the last listed time of the same processor"
When i Fault.Backwards site =
    (at : AtLine i site.line) × Backwards at.comes.before at.comes.choice at.line × (site.column ≡ 0)
-- "listed record number 2,049"
When i Fault.TooMany site =
    (at : AtLine i site.line) × TooMany (most (given i)) at.comes.before at.comes.choice at.line × (site.column ≡ 0)
-- "a processor with listed records has no such mark, or its last one differs from the expected three"
When i Fault.OtherLevels site = OtherLevels i site.line × (site.column ≡ 0)
-- "A difference is refusal 19 at the first statistics line in the file that has one"
When i Fault.OtherStatistics site = OtherStatistics i site.line × (site.column ≡ 0)
-- "receive without a matching send"
When i Fault.NoSend site = FirstReceive i site.line NoSend × (site.column ≡ 0)
-- "exactly if the received length is above the sent one"
When i Fault.LongReceive site = FirstReceive i site.line LongReceive × (site.column ≡ 0)
-- "no times exist"
When i Fault.NoTimes site = (choice : Choice) × Matched i choice × ((x : ℕ → ℤ) → Sound (waits i choice) x → ⊥) × (site ≡ nowhere)
-- "written trace longer than the room lent", where it is asked for
When i Fault.NoRoom site =
    (choice : Choice) × (rounds : ℕ) × (times : List ℤ) × Matched i choice × (settle (waits i choice) ≡ settled rounds times)
    × (i.wanted ≡ true) × (length i.room < length (written i choice times)) × (site ≡ nowhere)
-- "18 .. if both hold a listed record of one processor": a judging call has one trace
When i Fault.SharedProcessor site = ⊥
-- "a place not below the listed count is 22": a judging call names no place
When i Fault.NoPlace site = ⊥
