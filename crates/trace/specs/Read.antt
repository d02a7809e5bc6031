-- What reading a trace answers, and what it leaves in the store.
use Rattle.std.specs.Prelude.{ℕ, ◌≡◌, List}
use Rattle.paper.specs.Reading.{Reading, read_of}
use Rattle.paper.specs.declared.Choice.{Choice}
use Rattle.reading.specs.Starts.{start_of}
use Rattle.store.specs.Layout.{capacity, stored}
use Rattle.trace.specs.declared.Read.{Read}

-- the answer to a reading
unfoldable pub answer_of : Reading → Read
answer_of r = record { stop = r.stop; listed = r.state.listed; passed = r.state.passed }

-- a trace read into a store: as many records as it has room for, up to the reading's end
pub record ReadInto (choice : Choice) (s : List ℕ) (store : List ℕ) (r : Read) (after : List ℕ) : Type 0 where
  pub answer : r ≡ answer_of (read_of choice (capacity store) s)
  pub holds : after ≡ stored (start_of s) (read_of choice (capacity store) s).entries store
