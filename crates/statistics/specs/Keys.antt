-- Which records are like each other, and the buckets that they are sorted into.
use Rattle.std.specs.Prelude.{◌≡◌, ℕ, ◌+◌, ◌*◌, ◌%◌, ◌<◌, Bool, List, ◌==◌}
use Rattle.paper.specs.Statistics.{is_of}
use Rattle.paper.specs.declared.Entry.{Entry}
use Rattle.signed.specs.Codes.{code_of}
use Rattle.store.specs.Layout.{entry_from}
use Rattle.statistics.specs.declared.key.Key.{Key}

-- of a record's type and event on a processor
unfoldable pub under : Key → Entry → Bool
under k = is_of k.kind k.event k.processor

-- the key of the record at place i of a store
unfoldable pub key_at : List ℕ → ℕ → Key
key_at l i =
    record { kind = (entry_from l i).body.kind; event = (entry_from l i).body.event; processor = (entry_from l i).body.processor }

abbrev pub under_at : List ℕ → Key → ℕ → Bool
under_at l k i = under k (entry_from l i)

-- any function of the key would do: it decides how long a search takes, and not what it finds
unfoldable pub bucket_of : Key → ℕ
bucket_of k = (k.processor % 64 * 64 + code_of k.event % 1024 * 37 + code_of k.kind % 16 * 5) % 1024

pub record Bucket (k : Key) (b : ℕ) : Type 0 where
  pub is : b ≡ bucket_of k
  pub low : b < 1024

-- the record at place i is in bucket b
abbrev pub in_bucket : List ℕ → ℕ → ℕ → Bool
in_bucket l b i = bucket_of (key_at l i) == b
