-- The line that starts where line n does: its bytes, and where the next one starts. None starts past the end.
use Prim.Native.Nat.{ℕ, zero, suc, ◌+◌, ◌-◌, ◌≤◌}
use mathlib.Core.Path.{◌≡◌, refl, ap, ◌∙◌}
use mathlib.Core.List.{List, [], ◌∷◌, ◌++◌}
use mathlib.Core.Bool.{Bool, true, false, cond}
use native.Mathlib.Numerals.{add-one}
use native.Mathlib.Omega.{arith}
use lib.ListN.{length, take, drop}
use lib.Seq.{drop-drop}
use lib.Dec.{eqb}
use borrow.Author.Tests.{eqb-true}
use Rattle.forms.proofs.Tests.{never}
use Rattle.octets.specs.Octets.{index_of, index_after}
use Rattle.paper.specs.Reading.{Lines, done, unended, ended, before, lines_of}
use Rattle.paper.specs.Statistics.{line_in}
use Rattle.reading.specs.Places.{line_at}
use Rattle.reading.specs.Starts.{bytes_before, start_of}

-- ---- the first line of some bytes

-- its bytes, its LF and what follows
record Cut (s l : List ℕ) (x : Lines) : Type 0 where
  bytes : s ≡ l ++ (10 ∷ drop (suc (length l)) s)
  lines : lines_of (drop (suc (length l)) s) ≡ x

cut_later : (b : ℕ) (s l : List ℕ) (x : Lines) → Cut s l x → Cut (b ∷ s) (b ∷ l) x
cut_later b s l x p = record { bytes = ap (λ (m : List ℕ). b ∷ m) p.bytes; lines = p.lines }

cut_first : (s l : List ℕ) (x : Lines) → lines_of s ≡ ended l x → Cut s l x
unfolding lines_of before
cut_first [] l x e = never (cc)
cut_first (b ∷ s) l x e = go (lines_of s) refl (λ l₁ x₁. cut_first s l₁ x₁) (eqb b 10) refl e
  where
    go : (y : Lines) → lines_of s ≡ y → ((l₁ : List ℕ) (x₁ : Lines) → lines_of s ≡ ended l₁ x₁ → Cut s l₁ x₁)
        → (t : Bool) → eqb b 10 ≡ t → cond t (ended [] y) (before b y) ≡ ended l x → Cut (b ∷ s) l x
    go y is later true t e =
        let none : l ≡ [] = cc in
        let rest : y ≡ x = cc in
        rw none (record { bytes = ap (λ (c : ℕ). c ∷ s) (eqb-true b 10 t); lines = is ∙ rest })
    go done is later false t e = never (cc)
    go (unended m) is later false t e = never (cc)
    go (ended m y) is later false t e =
        let first : l ≡ b ∷ m = cc in
        let rest : y ≡ x = cc in
        rw (first, ← rest) (cut_later b s m y (later m y is))

-- bytes without a line are none
pub no_bytes : (s : List ℕ) → lines_of s ≡ done → s ≡ []
unfolding lines_of before
no_bytes [] e = refl
no_bytes (b ∷ s) e = go (lines_of s) (eqb b 10) e
  where
    go : (y : Lines) (t : Bool) → cond t (ended [] y) (before b y) ≡ done → b ∷ s ≡ []
    go y true e = never (cc)
    go done false e = never (cc)
    go (unended m) false e = never (cc)
    go (ended m y) false e = never (cc)

-- ---- a line more

line_more : (k : ℕ) (s l : List ℕ) (x : Lines) → lines_of (drop (bytes_before k (lines_of s)) s) ≡ ended l x
    → bytes_before (suc k) (lines_of s) ≡ bytes_before k (lines_of s) + (length l + 1)
unfolding bytes_before
line_more zero s l x e = rw e (omega arith)
line_more (suc k) s l x e = go (λ r. line_more k r l x) (lines_of s) refl e
  where
    go : ((r : List ℕ) → lines_of (drop (bytes_before k (lines_of r)) r) ≡ ended l x
        → bytes_before (suc k) (lines_of r) ≡ bytes_before k (lines_of r) + (length l + 1))
        → (y : Lines) → lines_of s ≡ y → lines_of (drop (bytes_before (suc k) y) s) ≡ ended l x
        → bytes_before (suc (suc k)) y ≡ bytes_before (suc k) y + (length l + 1)
    go later done is e = never (cc)
    go later (unended m) is e = never (cc)
    go later (ended m y) is e =
        let same = (cut_first s m y is).lines in
        let here = rw (add-one, ← drop-drop (bytes_before k y) (suc (length m)) s) at e in
        let step = rw same at (later (drop (suc (length m)) s)) in
        omega (arith, step here)

module _ (s : List ℕ) (n : ℕ) (h : 1 ≤ n) {l : List ℕ} {x : Lines} (is : lines_of (drop (start_of s n) s) ≡ ended l x) where
  pub start_next : start_of s (n + 1) ≡ start_of s n + (length l + 1)
  unfolding start_of
  start_next =
      let e : n + 1 - 1 ≡ suc (n - 1) = omega arith in
      rw e (line_more (n - 1) s l x is)

  behind : drop (suc (length l)) (drop (start_of s n) s) ≡ drop (start_of s (n + 1)) s
  behind = rw (start_next, add-one) (drop-drop (suc (length l)) (start_of s n) s)

  pub bytes_here : drop (start_of s n) s ≡ l ++ (10 ∷ drop (start_of s (n + 1)) s)
  bytes_here = (cut_first (drop (start_of s n) s) l x is).bytes ∙ ap (λ (r : List ℕ). l ++ (10 ∷ r)) behind

  pub lines_next : lines_of (drop (start_of s (n + 1)) s) ≡ x
  lines_next = rw (← behind) (cut_first (drop (start_of s n) s) l x is).lines

-- ---- a line by its number is the line where it starts

first_in : (b : ℕ) (y : Lines) → line_in (before b y) 0 ≡ b ∷ line_in y 0
unfolding line_in before
first_in b done = refl
first_in b (unended m) = refl
first_in b (ended m y) = refl

first_line : (s : List ℕ) → line_in (lines_of s) 0 ≡ take (index_of 10 s) s
unfolding lines_of line_in index_of
first_line [] = refl
first_line (b ∷ s) = go (eqb b 10) (first_line s)
  where
    go : (t : Bool) → line_in (lines_of s) 0 ≡ take (index_of 10 s) s
        → line_in (cond t (ended [] (lines_of s)) (before b (lines_of s))) 0 ≡ take (index_after t (index_of 10 s)) (b ∷ s)
    go true h = refl
    go false h = first_in b (lines_of s) ∙ ap (λ (m : List ℕ). b ∷ m) h

line_later : (k : ℕ) (s : List ℕ) → line_in (lines_of s) k ≡ line_in (lines_of (drop (bytes_before k (lines_of s)) s)) 0
unfolding bytes_before line_in
line_later zero s = refl
line_later (suc k) s = go (λ r. line_later k r) (lines_of s) refl
  where
    go : ((r : List ℕ) → line_in (lines_of r) k ≡ line_in (lines_of (drop (bytes_before k (lines_of r)) r)) 0)
        → (y : Lines) → lines_of s ≡ y → line_in y (suc k) ≡ line_in (lines_of (drop (bytes_before (suc k) y) s)) 0
    go later done is = rw is
    go later (unended m) is = rw is
    go later (ended m y) is =
        let same = (cut_first s m y is).lines in
        rw (add-one, ← drop-drop (bytes_before k y) (suc (length m)) s) (rw same at (later (drop (suc (length m)) s)))

pub line_starts : (s : List ℕ) (n : ℕ) → line_in (lines_of s) (n - 1) ≡ line_at s (start_of s n)
unfolding start_of line_at
line_starts s n = line_later (n - 1) s ∙ first_line (drop (bytes_before (n - 1) (lines_of s)) s)

-- ---- no line starts past the end

none_before : (k : ℕ) → bytes_before k done ≤ 0
unfolding bytes_before
none_before zero = omega arith
none_before (suc k) = omega arith

within : (s : List ℕ) → (k : ℕ) → bytes_before k (lines_of s) ≤ length s
unfolding lines_of before bytes_before
within [] = none_before
within (b ∷ s) = go (eqb b 10) (lines_of s) (within s)
  where
    go : (t : Bool) (x : Lines) → ((j : ℕ) → bytes_before j x ≤ length s) → (k : ℕ) → bytes_before k (cond t (ended [] x) (before b x)) ≤ suc (length s)
    go t x h zero = omega arith
    go true x h (suc k) = omega (arith, h k)
    go false done h (suc k) = omega arith
    go false (unended l) h (suc k) = omega arith
    go false (ended l x) h (suc k) = omega (arith, h (suc k))

pub start_within : (s : List ℕ) (n : ℕ) → start_of s n ≤ length s
unfolding start_of
start_within s n = within s (n - 1)
