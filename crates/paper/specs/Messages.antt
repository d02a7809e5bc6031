-- The seventh change request, its first half: "For an accepted trace fill a lent list of messages, each with its send's place and its
-- receive's place, in file order of receives."
use Rattle.std.specs.Prelude.{ℕ, zero, suc, List, [], ◌∷◌, ◌++◌, Option, Some, None}
use Rattle.paper.specs.Clock.{Waits}
use Rattle.paper.specs.Matching.{waits_of}
use Rattle.paper.specs.Filling.{Query, Filling, on_list, fill}
use Rattle.paper.specs.declared.Pair.{Pair}

-- the message that the record at place i receives, by the place of its send
unfoldable pub message_at : ℕ → Option ℕ → List Pair
message_at i None = []
message_at i (Some j) = record { send = j; receive = i } ∷ []

-- the messages that the first n records receive
unfoldable pub messages_to : (send : ℕ → Option ℕ) → ℕ → List Pair
messages_to send zero = []
messages_to send (suc n) = messages_to send n ++ message_at n (send n)

unfoldable pub messages_of : Waits → List Pair
messages_of w = messages_to w.send w.size

unfoldable pub messages : Query → List Pair → Filling Pair
messages q list = fill q list (λ f. on_list (messages_of (waits_of q.asked.share q.latencies f.reading.entries)) list)
