-- What the functions that put the merged bytes into the room have in hand, and what they leave.
use Rattle.std.specs.Prelude.{ℕ, ◌+◌, ◌-◌, ◌≤◌, ◌≡◌, Bool, true, false, cond, List, ◌++◌, length, take, drop}
use Rattle.std.proofs.lemmas.List.Edits.{sets}
use Rattle.std.specs.Int.Signed.{le_z}
use Rattle.paper.specs.Reading.{lines_of}
use Rattle.reading.specs.Joined.{AllEnded}
use Rattle.heads.specs.Heads.{HeadAt}
use Rattle.heads.specs.declared.Head.{Head}

-- each line has its LF
abbrev pub Whole : List ℕ → Type 0
Whole s = AllEnded (lines_of s)

-- the room holds both
abbrev pub Fits : List ℕ → List ℕ → List ℕ → Type 0
Fits first second room = length first + length second ≤ length room

-- ---- a step

-- a head is a part of its trace
pub record Within (s : List ℕ) (h : Head) : Type 0 where
  pub low : h.from ≤ h.to
  pub high : h.to ≤ length s

abbrev pub part_of : List ℕ → Head → List ℕ
part_of s h = take (h.to - h.from) (drop h.from s)

-- "the line with the smaller timestamp .., the first trace's where equal"
unfoldable pub chosen : List ℕ → List ℕ → Head → Head → List ℕ
chosen first second a b = cond (le_z a.time b.time) (part_of first a) (part_of second b)

-- the heads behind it, by whether the first trace's line went
unfoldable pub advanced_by : Bool → List ℕ → List ℕ → (a b a' b' : Head) → Type 0
advanced_by true first second a b a' b' = HeadAt first a.to a' × (b' ≡ b)
advanced_by false first second a b a' b' = (a' ≡ a) × HeadAt second b.to b'

abbrev pub Advanced : List ℕ → List ℕ → (a b a' b' : Head) → Type 0
Advanced first second a b a' b' = advanced_by (le_z a.time b.time) first second a b a' b'

-- ---- all of them

-- what is left of both, put behind what was put
unfoldable pub rest_put : List ℕ → List ℕ → ℕ → ℕ → List ℕ → List ℕ
rest_put first second at by room = sets (sets room (at + by) (drop at first)) (length first + by) (drop by second)

-- the room with some bytes at its start
unfoldable pub room_after : List ℕ → List ℕ → List ℕ
room_after bytes room = bytes ++ drop (length bytes) room
