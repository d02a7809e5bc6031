-- Lines as their bytes: the lines of some bytes are these bytes again, and lines that all have their LF, and no other one, are the lines
-- of their bytes.
use Prim.Native.Nat.{ℕ}
use mathlib.Core.Path.{◌≡◌, refl, ap, ◌∙◌}
use mathlib.Core.List.{List, [], ◌∷◌, ◌++◌}
use mathlib.Core.Bool.{Bool, true, false, cond}
use lib.Dec.{eqb}
use borrow.Author.Tests.{eqb-true, eqb-false, ne_eqb}
use Rattle.paper.specs.Reading.{Lines, done, unended, ended, before, lines_of}
use Rattle.paper.specs.Merging.{bytes_in}
use Rattle.forms.specs.Free.{Free}
use Rattle.reading.specs.Joined.{AllEnded}

-- ---- from bytes

bytes_before : (b : ℕ) (x : Lines) → bytes_in (before b x) ≡ b ∷ bytes_in x
unfolding bytes_in before
bytes_before b done = refl
bytes_before b (unended l) = refl
bytes_before b (ended l x) = refl

pub bytes_back : (s : List ℕ) → bytes_in (lines_of s) ≡ s
unfolding lines_of bytes_in
bytes_back [] = refl
bytes_back (b ∷ s) = go (bytes_back s) (eqb b 10) refl
  where
    go : bytes_in (lines_of s) ≡ s → (t : Bool) → eqb b 10 ≡ t → bytes_in (cond t (ended [] (lines_of s)) (before b (lines_of s))) ≡ b ∷ s
    go later true e = rw (later, eqb-true b 10 e)
    go later false e = bytes_before b (lines_of s) ∙ ap (λ (m : List ℕ). b ∷ m) later

-- ---- lines have no LF in them

abbrev pub Clean : Lines → Type 0
Clean done = Unit
Clean (unended l) = Free 10 l
Clean (ended l x) = Free 10 l × Clean x

clean_before : (b : ℕ) → (b ≡ 10 → ⊥) → (x : Lines) → Clean x → Clean (before b x)
unfolding before Free
clean_before b h done c = (h, tt)
clean_before b h (unended l) c = (h, c)
clean_before b h (ended l x) c = ((h, c.0), c.1)

pub clean_lines : (s : List ℕ) → Clean (lines_of s)
unfolding lines_of Free
clean_lines [] = tt
clean_lines (b ∷ s) = go (clean_lines s) (eqb b 10) refl
  where
    go : Clean (lines_of s) → (t : Bool) → eqb b 10 ≡ t → Clean (cond t (ended [] (lines_of s)) (before b (lines_of s)))
    go c true e = (tt, c)
    go c false e = clean_before b (eqb-false b 10 e) (lines_of s) c

-- ---- from lines

pub line_ended : (l s : List ℕ) → Free 10 l → lines_of (l ++ (10 ∷ s)) ≡ ended l (lines_of s)
unfolding lines_of before Free
line_ended [] s f = refl
line_ended (b ∷ l) s f = rw (ne_eqb b 10 f.0, line_ended l s f.1)

pub lines_back : (x : Lines) → AllEnded x → Clean x → lines_of (bytes_in x) ≡ x
unfolding bytes_in AllEnded lines_of
lines_back done all c = refl
lines_back (unended l) all c = absurd all
lines_back (ended l x) all c = line_ended l (bytes_in x) c.0 ∙ ap (ended l) (lines_back x all c.1)
