-- The merged lines of two traces: every line appears once and each trace's own order stays. An empty trace adds nothing.
use Prim.Native.Nat.{ℕ, ◌+◌}
use mathlib.Core.Path.{◌≡◌, refl, ap, ◌∙◌}
use mathlib.Core.Bool.{Bool, true, false, cond}
use mathlib.Core.List.{List, []}
use lib.ListN.{length}
use lib.Signed.{le_z}
use Rattle.paper.specs.Reading.{Lines, done, unended, ended, lines_of}
use Rattle.paper.specs.Merging.{stamp_of, merged_lines, bytes_in, merged_bytes}
use Rattle.reading.specs.Joined.{AllEnded}
use Rattle.reading.specs.Mixed.{Mixed, no_more, from_first, from_second}
use Rattle.reading.proofs.Bytes.{bytes_back, lines_back, clean_lines}
use Rattle.reading.proofs.MixedLines.{mixed_ended, mixed_clean, mixed_length}

-- ---- the lines

only_first : (x : Lines) → AllEnded x → Mixed x done x
unfolding AllEnded
only_first done all = no_more
only_first (unended l) all = absurd all
only_first (ended l x) all = from_first (only_first x all)

only_second : (y : Lines) → AllEnded y → Mixed done y y
unfolding AllEnded
only_second done all = no_more
only_second (unended k) all = absurd all
only_second (ended k y) all = from_second (only_second y all)

pub merged_mixed : (x y : Lines) → AllEnded x → AllEnded y → Mixed x y (merged_lines x y)
unfolding AllEnded merged_lines
merged_mixed done y all all' = only_second y all'
merged_mixed (unended l) y all all' = absurd all
merged_mixed (ended l x) done all all' = only_first (ended l x) all
merged_mixed (ended l x) (unended k) all all' = absurd all'
merged_mixed (ended l x) (ended k y) all all' =
    go (le_z (stamp_of l) (stamp_of k)) (merged_mixed x (ended k y) all all') (merged_mixed (ended l x) y all all')
  where
    go : (t : Bool) → Mixed x (ended k y) (merged_lines x (ended k y)) → Mixed (ended l x) y (merged_lines (ended l x) y)
        → Mixed (ended l x) (ended k y) (cond t (ended l (merged_lines x (ended k y))) (ended k (merged_lines (ended l x) y)))
    go true m n = from_first m
    go false m n = from_second n

-- ---- the bytes

module _ (first second : List ℕ) (all : AllEnded (lines_of first)) (all' : AllEnded (lines_of second)) where
  merged : Mixed (lines_of first) (lines_of second) (merged_lines (lines_of first) (lines_of second))
  merged = merged_mixed (lines_of first) (lines_of second) all all'

  pub merged_lines_lem : Mixed (lines_of first) (lines_of second) (lines_of (merged_bytes first second))
  unfolding merged_bytes
  merged_lines_lem = rw (lines_back (merged_lines (lines_of first) (lines_of second)) (mixed_ended merged) (mixed_clean merged (clean_lines first) (clean_lines second))) merged

  pub merged_length : length (merged_bytes first second) ≡ length first + length second
  unfolding merged_bytes
  merged_length = rw (bytes_back first, bytes_back second) at (mixed_length merged)

-- ---- an empty trace

pub first_empty : (second : List ℕ) → merged_bytes [] second ≡ second
unfolding merged_bytes merged_lines lines_of
first_empty second = bytes_back second

without_second : (x : Lines) → merged_lines x done ≡ x
unfolding merged_lines
without_second done = refl
without_second (unended l) = refl
without_second (ended l x) = refl

pub second_empty : (first : List ℕ) → merged_bytes first [] ≡ first
unfolding merged_bytes lines_of
second_empty first = ap bytes_in (without_second (lines_of first)) ∙ bytes_back first
