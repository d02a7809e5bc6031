-- Document 01, "Numbers a caller gets back": the table's first column, with 14 as the fourth change request has it; and the numbers of
-- the first, of the sixth, of the eighth and of the seventh.
use Rattle.std.specs.Prelude.{ℕ}
use Rattle.paper.specs.declared.Fault.{Fault}

unfoldable pub number_of : Fault → ℕ
-- "choice is neither 1 (strict) nor 2 (lenient)"; "0 for off .. or 1 for on; any other is refusal 1"
number_of Fault.BadChoice = 1
-- "table or times of the wrong length"
number_of Fault.WrongLength = 2
-- "a latency above 1,000,000"
number_of Fault.HighLatency = 3
-- "trace above 65,536 bytes"
number_of Fault.LongTrace = 4
-- "form of a line or of any field but the timestamp (bad data too)"
number_of Fault.Form = 5
-- "form of the timestamp"
number_of Fault.Stamp = 6
-- "unlisted, under strict"
number_of Fault.Unlisted = 7
-- "message event not handled"
number_of Fault.NotHandled = 8
-- "listed record: processor outside 0 to 63 or process not 0"
number_of Fault.Place = 9
-- "a send or receive without its three good data"
number_of Fault.NoMessage = 10
-- "time below the last listed time of the same processor"
number_of Fault.Backwards = 11
-- "listed record number 2,049"
number_of Fault.TooMany = 12
-- "receive without a matching send"
number_of Fault.NoSend = 13
-- "exactly if the received length is above the sent one"
number_of Fault.LongReceive = 14
-- "no times exist"
number_of Fault.NoTimes = 15
-- "written trace longer than the room lent"
number_of Fault.NoRoom = 16
-- "a processor with listed records has no such mark, or its last one differs from the expected three"
number_of Fault.OtherLevels = 17
-- "both hold a listed record of one processor"
number_of Fault.SharedProcessor = 18
-- "A difference is refusal 19"
number_of Fault.OtherStatistics = 19
-- "a place not below the listed count"
number_of Fault.NoPlace = 22
