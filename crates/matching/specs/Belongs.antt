-- "The k-th receive at processor q from p with type t belongs to the k-th send from p to q with type t, both counted in file order":
-- what it is for a receive to belong to a send.
use Rattle.std.specs.Prelude.{ℕ, ◌<◌, ◌≡◌, List, length, take}
use Rattle.paper.specs.Matching.{Key, count_if, is_send_of, is_receive_of, entry_at}
use Rattle.paper.specs.declared.Message.{Message}
use Rattle.paper.specs.declared.Role.{Role}
use Rattle.paper.specs.declared.Role.TheVariants.{Send, Receive}
use Rattle.paper.specs.declared.Entry.{Entry}

-- of the record at place k, k counted from 0
abbrev pub processor : List Entry → ℕ → ℕ
processor es k = (entry_at es k).body.processor

abbrev pub role : List Entry → ℕ → Role
role es k = (entry_at es k).body.role

-- "from p to q with type t", of a message that record j sent and record k received
abbrev pub key_of : List Entry → ℕ → ℕ → Message → Key
key_of es j k m = record { sender = processor es j; receiver = processor es k; tag = m.tag }

-- record k received what record j sent
pub record Belongs (es : List Entry) (k j : ℕ) : Type 0 where
  pub within : j < length es
  pub received : Message
  pub sent : Message
  pub receives : role es k ≡ Receive received
  pub sends : role es j ≡ Send sent
  pub from : received.peer ≡ processor es j
  pub to : sent.peer ≡ processor es k
  pub tag : received.tag ≡ sent.tag
  pub counted : count_if (is_receive_of (key_of es j k sent)) (take k es) ≡ count_if (is_send_of (key_of es j k sent)) (take j es)
