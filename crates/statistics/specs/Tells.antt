-- One pair beside what two kinds of records come to: entries and exits for a time, entries and marks for a count; sends or receives for a
-- volume, which asks for no others.
use Rattle.std.specs.Prelude.{◌≡◌, ℕ, ◌+◌, ◌*◌, ◌≤◌, Bool, false, cond, not, ◌&&◌, List, [], ◌∷◌, ℤ, pos, ◌==◌, nat_le}
use Rattle.paper.specs.Tests.{eq_z, minus, one_of}
use Rattle.statistics.specs.Totals.{since_least}
use Rattle.statistics.specs.declared.total.Total.{Total}

abbrev pub volume_events : List ℤ
volume_events = minus 21 ∷ minus 51 ∷ minus 52 ∷ []

-- ---- the record types that are asked for

unfoldable pub first_kind : ℤ → ℤ → ℤ
first_kind kind event =
    cond (eq_z kind (minus 101)) (minus 3) (cond (eq_z kind (minus 102)) (minus 3) (cond (eq_z event (minus 21)) (minus 3) (minus 4)))

unfoldable pub second_kind : ℤ → ℤ
second_kind kind = cond (eq_z kind (minus 101)) (minus 4) (minus 2)

-- ---- numbers

unfoldable pub other_number : ℤ → ℕ → Bool
other_number told due = not (eq_z told (minus 1)) && not (eq_z told (pos due))

-- ---- times

-- two numbers are at most so far apart
unfoldable pub is_within : ℕ → ℕ → ℕ → Bool
is_within far a b = nat_le a (b + far) && nat_le b (a + far)

-- as many entries as exits, of which no sum reaches 2^64: at most 9,222 of each, every time counted from one below the least on
pub record Fair (entries exits : Total) : Type 0 where
  pub few : entries.count ≤ 9222
  pub low_entries : entries.times ≤ entries.count * 1999999999999999
  pub low_exits : exits.times ≤ entries.count * 1999999999999999

-- where they are equally many
abbrev pub Comparable : Total → Total → Type 0
Comparable entries exits = entries.count ≡ exits.count → Fair entries exits

unfoldable pub other_time : ℤ → Total → Total → Bool
other_time told entries exits =
    not (eq_z told (minus 1000000))
    && entries.count == exits.count
    && not (is_within entries.count (since_least told + entries.times) (1000000000000000 + exits.times))

-- ---- a pair

unfoldable pub tells_other : ℤ → ℤ → ℤ → Total → Total → Bool
tells_other kind event told first second =
    cond (eq_z kind (minus 101)) (other_time told first second)
    (cond (eq_z kind (minus 102)) (other_number told (first.count + second.count))
    (cond (one_of volume_events event) (other_number told first.lengths) false))
