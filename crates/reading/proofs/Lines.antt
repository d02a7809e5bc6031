-- The lines of bytes: the first one cut off, and lines after lines.
use Prim.Native.Nat.{ℕ, suc, ◌≤◌, ◌<◌}
use mathlib.Core.Path.{◌≡◌, refl, ap, ◌∙◌}
use mathlib.Core.List.{List, [], ◌∷◌, ◌++◌}
use mathlib.Core.Bool.{Bool, true, false, cond}
use native.Mathlib.Omega.{arith}
use lib.ListN.{length, take, drop}
use lib.Dec.{eqb}
use Rattle.octets.specs.Octets.{index_of, index_after}
use Rattle.paper.specs.Reading.{Lines, done, unended, ended, before, lines_of}
use Rattle.reading.specs.Joined.{AllEnded, line_count, followed}

-- ---- the first line

-- bytes with an LF: the bytes before it, and the lines of the bytes after it
pub first_line : (s : List ℕ) → index_of 10 s < length s → lines_of s ≡ ended (take (index_of 10 s) s) (lines_of (drop (suc (index_of 10 s)) s))
unfolding index_of lines_of before
first_line [] h = absurd (omega arith)
first_line (b ∷ s) h = go (first_line s) (eqb b 10) refl h
  where
    go : (index_of 10 s < length s → lines_of s ≡ ended (take (index_of 10 s) s) (lines_of (drop (suc (index_of 10 s)) s)))
        → (t : Bool) → eqb b 10 ≡ t → index_after t (index_of 10 s) < length (b ∷ s)
        → cond t (ended [] (lines_of s)) (before b (lines_of s))
        ≡ ended (take (index_after t (index_of 10 s)) (b ∷ s)) (lines_of (drop (suc (index_after t (index_of 10 s))) (b ∷ s)))
    go later true e h = refl
    go later false e h = ap (before b) (later (omega arith))

-- bytes with no LF, and not none
pub no_line : (s : List ℕ) → 0 < length s → index_of 10 s ≡ length s → lines_of s ≡ unended s
unfolding index_of lines_of before
no_line [] h e = absurd (omega arith)
no_line (b ∷ s) h e = go s (λ h. no_line s h) (eqb b 10) e
  where
    go : (s : List ℕ) → (0 < length s → index_of 10 s ≡ length s → lines_of s ≡ unended s)
        → (t : Bool) → index_after t (index_of 10 s) ≡ suc (length s) → cond t (ended [] (lines_of s)) (before b (lines_of s)) ≡ unended (b ∷ s)
    go s later true e = absurd (omega arith)
    go [] later false e = refl
    go (c ∷ s) later false e = ap (before b) (later (omega arith) (omega arith))

-- no more lines than bytes
pub few_lines : (s : List ℕ) → line_count (lines_of s) ≤ length s
unfolding lines_of before line_count
few_lines [] = omega arith
few_lines (b ∷ s) = go (eqb b 10) (lines_of s) (few_lines s)
  where
    go : (t : Bool) (x : Lines) → line_count x ≤ length s → line_count (cond t (ended [] x) (before b x)) ≤ suc (length s)
    go true x h = omega arith
    go false done h = omega arith
    go false (unended l) h = omega arith
    go false (ended l x) h = omega arith

-- ---- lines after lines

before_followed : (b : ℕ) (x y : Lines) → AllEnded (before b x) → before b (followed x y) ≡ followed (before b x) y
unfolding before followed AllEnded
before_followed b done y h = absurd h
before_followed b (unended l) y h = absurd h
before_followed b (ended l x) y h = refl

before_ended : (b : ℕ) (x : Lines) → AllEnded (before b x) → AllEnded x
unfolding before AllEnded
before_ended b done h = absurd h
before_ended b (unended l) h = absurd h
before_ended b (ended l x) h = h

-- the lines of a ++ b, where a is ended by LF
pub lines_followed : (a b : List ℕ) → AllEnded (lines_of a) → lines_of (a ++ b) ≡ followed (lines_of a) (lines_of b)
unfolding lines_of followed AllEnded
lines_followed [] b h = refl
lines_followed (x ∷ a) b h = go (lines_followed a b) (eqb x 10) h
  where
    go : (AllEnded (lines_of a) → lines_of (a ++ b) ≡ followed (lines_of a) (lines_of b))
        → (t : Bool) → AllEnded (cond t (ended [] (lines_of a)) (before x (lines_of a)))
        → cond t (ended [] (lines_of (a ++ b))) (before x (lines_of (a ++ b))) ≡ followed (cond t (ended [] (lines_of a)) (before x (lines_of a))) (lines_of b)
    go later true h = ap (ended []) (later h)
    go later false h = ap (before x) (later (before_ended x (lines_of a) h)) ∙ before_followed x (lines_of a) (lines_of b) h
