-- The tables that the engine of the clock condition takes: of each entry its original, the place of the record before it, the gap to keep
-- from there, and the latency from its send. A place that is the number of entries is no place.
use Rattle.std.specs.Prelude.{ℕ, cond, List, length, get_or, ℤ, ltb, leb, unwrap_or}
use Rattle.paper.specs.Clock.{listed}
use Rattle.paper.specs.Matching.{entry_at, last_on, gap_from, latency_for}
use Rattle.paper.specs.declared.Entry.{Entry}
use Rattle.store.specs.Layout.{too_many, entries_in}
use Rattle.engine.specs.Promise.{place}

-- ---- one entry

abbrev pub original_at : List Entry → ℕ → ℤ
original_at es i = (entry_at es i).body.time

-- the place of the record before it on its processor
abbrev pub before_at : List Entry → ℕ → ℕ
before_at es i = unwrap_or (last_on es (entry_at es i).body.processor i) (length es)

-- how much later than that one it is at least
abbrev pub gap_at : ℕ → List Entry → ℕ → ℕ
gap_at share es i = gap_from share es i (last_on es (entry_at es i).body.processor i)

-- how much later than its send it is at least, 0 where it is no receive
abbrev pub latency_of : List ℕ → Entry → ℕ
latency_of table e = latency_for table e.body.processor e.body.role

abbrev pub latency_at : List ℕ → List Entry → ℕ → ℕ
latency_at table es i = latency_of table (entry_at es i)

-- ---- all of them

unfoldable pub originals_of : List Entry → List ℤ
originals_of es = listed (length es) (original_at es)

unfoldable pub befores_of : List Entry → List ℕ
befores_of es = listed (length es) (before_at es)

unfoldable pub gaps_of : ℕ → List Entry → List ℕ
gaps_of share es = listed (length es) (gap_at share es)

-- the same of any table of records before, a place in the trace or none
unfoldable pub gaps_by : ℕ → List Entry → (before : List ℕ) → List ℕ
gaps_by share es before = listed (length es) (λ i. gap_from share es i (place (length es) (get_or before i 0)))

unfoldable pub latencies_of : List ℕ → List Entry → List ℕ
latencies_of table es = listed (length es) (latency_at table es)

-- ---- in a lent slice

-- of as many records as places are lent; where they are too many, nothing is touched
unfoldable pub befores_into : (store out : List ℕ) → List ℕ
befores_into store out = cond (ltb (length out) too_many) (befores_of (entries_in store (length out))) out

-- of as many records as places are lent; where more than the whole gap is to be kept, nothing is touched
unfoldable pub gaps_into : (share : ℕ) (store before out : List ℕ) → List ℕ
gaps_into share store before out = cond (leb share 1000) (gaps_by share (entries_in store (length out)) before) out
