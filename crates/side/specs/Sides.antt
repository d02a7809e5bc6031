-- What a record is to the matching: a send or a receive under its key, "from p to q with type t", and the bucket of a key.
use Rattle.std.specs.Prelude.{◌≡◌, ℕ, ◌+◌, ◌*◌, ◌%◌, ◌<◌, Bool, false, List, eqb}
use Rattle.paper.specs.Matching as Paper
use Rattle.paper.specs.declared.Role.{Role}
use Rattle.store.specs.Layout.{entry_from}
use Rattle.signed.specs.Codes.{code_of}
use Rattle.side.specs.declared.Key.{Key}
use Rattle.side.specs.declared.Side.{Side}
use Rattle.side.specs.declared.Side.TheVariants.{Neither, Sends, Receives}

-- a key as the paper's
abbrev pub key_of : Key → Paper.Key
key_of k = record { sender = k.sender; receiver = k.receiver; tag = k.tag }

unfoldable pub side_for : ℕ → Role → Side
side_for processor Role.Neither = Neither
side_for processor (Role.Send m) = Sends (record { sender = processor; receiver = m.peer; tag = m.tag })
side_for processor (Role.Receive m) = Receives (record { sender = m.peer; receiver = processor; tag = m.tag })

-- the side of the record at place i of a store
unfoldable pub side_at : List ℕ → ℕ → Side
side_at l i = side_for (entry_from l i).body.processor (entry_from l i).body.role

-- any function of the key would do: it decides how long a search takes, and not what it finds
unfoldable pub bucket_of : Key → ℕ
bucket_of k = (k.sender % 64 * 64 + k.receiver % 64 + code_of k.tag % 1024 * 37) % 1024

pub record Bucket (k : Key) (b : ℕ) : Type 0 where
  pub is : b ≡ bucket_of k
  pub low : b < 1024

-- a send, or a receive, whose key is in the bucket
abbrev pub sends_in : ℕ → Side → Bool
sends_in b Neither = false
sends_in b (Sends k) = eqb (bucket_of k) b
sends_in b (Receives k) = false

abbrev pub receives_in : ℕ → Side → Bool
receives_in b Neither = false
receives_in b (Sends k) = false
receives_in b (Receives k) = eqb (bucket_of k) b

-- a send, or a receive, under the key, at a place of the store
abbrev pub send_under : List ℕ → Key → ℕ → Bool
send_under l k i = Paper.is_send_of (key_of k) (entry_from l i)

abbrev pub receive_under : List ℕ → Key → ℕ → Bool
receive_under l k i = Paper.is_receive_of (key_of k) (entry_from l i)
