-- What some records come to: how many there are, and the sums of their times and of their messages' lengths.
use Rattle.std.specs.Prelude.{ℕ, zero, suc, ◌+◌, ◌%◌, ◌^◌, Bool, cond, List, ℤ, pos, ◌+ℤ◌, unsigned_abs}
use Rattle.paper.specs.Statistics.{length_in}
use Rattle.paper.specs.declared.Entry.{Entry}
use Rattle.store.specs.Layout.{entry_from}
use Rattle.statistics.specs.declared.total.Total.{Total}

-- a time counted from one microsecond before the least that the format holds
unfoldable pub since_least : ℤ → ℕ
since_least t = unsigned_abs (t +ℤ pos 1000000000000000)

-- of a record: one, its time, its message's length
abbrev pub one : Entry → ℕ
one e = 1

abbrev pub time_in : Entry → ℕ
time_in e = since_least e.body.time

abbrev pub bytes_in : Entry → ℕ
bytes_in e = length_in e.body.role

-- the sum of a weight over the first i records of a store that pass a test
unfoldable pub total : (Entry → ℕ) → (Entry → Bool) → List ℕ → ℕ → ℕ
total weight test l zero = 0
total weight test l (suc i) =
    let before = total weight test l i in cond (test (entry_from l i)) (weight (entry_from l i) + before) before

-- one record more
unfoldable pub with_one : Entry → Total → Total
with_one e t =
    record {
      count = t.count + 1;
      times = (t.times + time_in e) % 2 ^ 64;
      lengths = (t.lengths + bytes_in e) % 2 ^ 64;
    }
