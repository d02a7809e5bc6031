-- The written trace as the trace's bytes with the timestamps of the moved records replaced: what the paper's `written_from` says
-- without looking at a line whose record did not move.
use Rattle.std.specs.Prelude.{ℕ, ◌+◌, ◌-◌, List, [], ◌∷◌, ◌++◌, cond, length, take, drop, ℤ, Option, Some, None, option_map}
use Rattle.paper.specs.Tests.{eq_z}
use Rattle.paper.specs.Forms.{time_shown}
use Rattle.shown.specs.Writes.{shown_length}
use Rattle.store.specs.Layout.{entry_from}
use Rattle.stamps.specs.Stamps.{stamp_on, stamp_length, in_place}

-- ---- the moved records

-- a place in the store, and the new time of the record there
pub record Move : Type 0 where
  pub place : ℕ
  pub time : ℤ

-- those among the records from place k on, which get these times
unfoldable pub moves_from : List ℕ → ℕ → List ℤ → List Move
moves_from store k [] = []
moves_from store k (t ∷ times) =
    let later = moves_from store (k + 1) times in
    cond (eq_z (entry_from store k).body.time t) later (record { place = k; time = t } ∷ later)

-- ---- the bytes

-- some bytes before those that are left, if there are any
unfoldable pub behind : List ℕ → Option (List ℕ) → Option (List ℕ)
behind before = option_map (λ (more : List ℕ). before ++ more)

-- the rest of the bytes of s, with the stamps of these records replaced; none where one is not in its place
unfoldable pub patched : (s store rest : List ℕ) → List Move → Option (List ℕ)
patched s store rest [] = Some rest
patched s store rest (m ∷ moves) =
    let stamp = stamp_on s store m.place in
    let old = stamp_length store m.place in
    let more = patched s store (drop old stamp) moves in
    let before = take (length rest - length stamp) rest ++ time_shown m.time in
    cond (in_place (length rest) (length stamp) old (shown_length m.time)) (behind before more) None

-- the written trace: as many records of the store as there are times
unfoldable pub bytes_for : (s store : List ℕ) → List ℤ → Option (List ℕ)
bytes_for s store times = patched s store s (moves_from store 0 times)
