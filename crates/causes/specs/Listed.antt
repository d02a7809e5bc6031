-- "fill a lent list of messages, each with its send's place and its receive's place, in file order of receives": what the messages of some
-- records are.
use Rattle.std.specs.Prelude.{ℕ, ◌<◌, ◌≡◌, List, length, get_or}
use Rattle.paper.specs.Matching.{matched_count}
use Rattle.paper.specs.declared.Entry.{Entry}
use Rattle.paper.specs.declared.Message.{Message}
use Rattle.paper.specs.declared.Pair.{Pair}
use Rattle.paper.specs.declared.Role.TheVariants.{Receive}
use Rattle.matching.specs.Belongs.{role, Belongs}

-- the message at a place of the list
abbrev pub message : List Pair → ℕ → Pair
message list k = get_or list k (record { send = 0; receive = 0 })

pub record Messages (es : List Entry) (list : List Pair) : Type 0 where
  -- as many as matched
  pub many : length list ≡ matched_count es
  -- "each with its send's place and its receive's place"
  pub inside : (k : ℕ) → k < length list → (message list k).receive < length es
  pub belongs : (k : ℕ) → k < length list → Belongs es (message list k).receive (message list k).send
  -- each receive is in it
  pub all : (i : ℕ) → i < length es → (m : Message) → role es i ≡ Receive m → (k : ℕ) × (k < length list) × ((message list k).receive ≡ i)
  -- "in file order of receives"
  pub order : (k l : ℕ) → k < l → l < length list → (message list k).receive < (message list l).receive
  -- each with a send of its own
  pub own : (k l : ℕ) → k < length list → l < length list → (message list k).send ≡ (message list l).send → k ≡ l
