-- Where the timestamp of a record stands in the trace, and how long it is.
use Rattle.std.specs.Prelude.{ℕ, ◌≤◌, ◌≡◌, List, Bool, ◌&&◌, length, drop, leb, ltb}
use Rattle.paper.specs.Line.{after}
use Rattle.shown.specs.Writes.{shown_length}
use Rattle.store.specs.Layout.{entry_from, start_from}
use Rattle.stamps.specs.declared.Stamp.{Stamp}

-- the bytes from the timestamp of record i on: it is the third field of its line
unfoldable pub stamp_on : (s store : List ℕ) → ℕ → List ℕ
stamp_on s store i = after (after (drop (start_from store i) s))

-- its length, since a time is written in one way only; none for a time that has no form
unfoldable pub stamp_length : List ℕ → ℕ → ℕ
stamp_length store i = shown_length (entry_from store i).body.time

-- a stamp of `old` bytes, from which on there are `there` bytes, stands within the last `left` bytes, and the new one has a form
unfoldable pub in_place : ℕ → ℕ → ℕ → ℕ → Bool
in_place left there old new = leb there left && leb old there && ltb 0 old && ltb 0 new

-- ---- what the functions tell

-- the part of s from r on
pub record Place (s part : List ℕ) (r : ℕ) : Type 0 where
  pub inside : r ≤ length s
  pub from : drop r s ≡ part

-- where the stamp of record i stands, and its length
pub record StampOf (s : List ℕ) (store : List ℕ) (i : ℕ) (r : Stamp) : Type 0 where
  pub place : Place s (stamp_on s store i) r.at
  pub long : r.long ≡ stamp_length store i
