-- How far a trace is read: what the store and the last times hold, and what is left to read.
use Rattle.std.specs.Prelude.{ℕ, ◌+◌, ◌≤◌, ◌≡◌, List, length, drop, ℤ}
use Rattle.paper.specs.Reading.{lines_of, State, read_from, read_of}
use Rattle.paper.specs.declared.Choice.{Choice}
use Rattle.paper.specs.declared.Entry.{Entry}
use Rattle.reading.specs.Joined.{behind}
use Rattle.reading.specs.Starts.{bytes_before, start_of}
use Rattle.store.specs.Layout.{capacity, stored}

-- the state by its parts
abbrev pub state : List ℤ → ℕ → ℕ → State
state last listed passed = record { last = last; listed = listed; passed = passed }

-- Before line n: the records put so far, and what is left to read gives with them the whole reading.
pub record Going (choice : Choice) (s store₀ : List ℕ) (most : ℕ) (store : List ℕ) (last : List ℤ) (listed passed at n : ℕ) : Type 0 where
  pub room : most ≡ capacity store₀
  pub long : length store ≡ length store₀
  pub wide : length last ≡ 64
  pub inside : at ≤ length s
  pub line : n ≤ at + 1
  pub counts : listed + passed ≤ at
  pub put : List Entry
  pub many : length put ≡ listed
  pub holds : store ≡ stored (start_of s) put store₀
  pub starts : (k : ℕ) → start_of s (n + k) ≡ at + bytes_before k (lines_of (drop at s))
  pub reads : behind put (read_from choice most (lines_of (drop at s)) n (state last listed passed)) ≡ read_of choice most s
