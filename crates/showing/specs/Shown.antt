-- What is shown of a trace, or its refusal.
use Rattle.std.specs.Prelude.{ℕ, ◌≤◌, List, length, take, ℤ}
use Rattle.paper.specs.Answer.{Found, Reached, stopped, found, reach}
use Rattle.paper.specs.Chain.{chain}
use Rattle.paper.specs.Clock.{time_at}
use Rattle.paper.specs.Filling.{Query, Filling, query, judged}
use Rattle.paper.specs.Matching.{waits_of}
use Rattle.paper.specs.Messages.{messages_of}
use Rattle.paper.specs.declared.Asked.{Asked}
use Rattle.paper.specs.declared.Entry.{Entry}
use Rattle.answer.specs.Answers.{refusal}
use Rattle.report.specs.Said.{said_shown}
use Rattle.report.specs.declared.Said.TheVariants as Said
use Rattle.deliveries.specs.Deliveries.{deliveries_of}
use Rattle.lookup.specs.Place.{place_on}
use Rattle.showing.specs.Chained.{lent_list, filled_shown}
use Rattle.showing.specs.declared.Shows.{Shows}
use Rattle.showing.specs.declared.Shows.TheVariants.{Messages, Reasons}

-- what the call that tells a chain comes to, of the record on a line
unfoldable pub on_filling : Query → Filling ℕ → List Entry → List ℤ → List ℕ
on_filling q f es times = filled_shown f.answer q.asked.share q.latencies es times (take f.answer.filled f.list)

unfoldable pub on_line : Query → (line : List ℕ) → List Entry → List ℤ → List ℕ
on_line q line es times = on_filling q (chain q (place_on line es) lent_list) es times

unfoldable pub shown_of : Shows → Query → (line : List ℕ) → Found → List ℕ
shown_of Messages q line f =
    deliveries_of f.reading.entries (time_at f.times) (messages_of (waits_of q.asked.share q.latencies f.reading.entries))
shown_of Reasons q line f = on_line q line f.reading.entries f.times

-- "A refused trace keeps its refusal"
unfoldable pub on_reached : Shows → Query → (line : List ℕ) → Reached → List ℕ
on_reached shows q line (stopped fault site) = said_shown (Said.Answered (refusal fault site))
on_reached shows q line (found f) = shown_of shows q line f

unfoldable pub on_trace : Shows → Asked → (line trace latencies : List ℕ) → List ℕ
on_trace shows asked line trace latencies =
    on_reached shows (query trace latencies asked) line (reach (judged (query trace latencies asked)))

-- ---- the room

-- a line of 256 bytes for each record that a trace may list, and one more
unfoldable pub Wide : List ℕ → Type 0
Wide room = 524544 ≤ length room
