-- The first word of a line and the words behind it.
use Prim.Native.Nat.{ℕ, suc, ◌+◌, ◌-◌, ◌≤◌, ◌<◌}
use mathlib.Core.Path.{◌≡◌, refl, sym, ap, ◌∙◌}
use mathlib.Core.Bool.{Bool, true, false, cond}
use mathlib.Core.List.{List, [], ◌∷◌}
use native.Mathlib.Omega.{arith}
use lib.ListN.{length, take, drop, drop_of_length-le}
use lib.Seq.{take-nil, drop-nil, drop-length, drop-drop}
use lib.Dec.{eqb}
use Rattle.octets.specs.Octets.{index_of, index_after}
use Rattle.named.specs.Words.{before, words_of, up_to, behind}
use Rattle.named.specs.Parts.{cut, WordAt}

-- ---- the first word

words_on : (separator b : ℕ) (line : List ℕ) → words_of separator (b ∷ line) ≡ up_to separator (b ∷ line) ∷ words_of separator (behind separator (b ∷ line))
unfolding before words_of up_to behind index_of
words_on separator b [] = go (eqb b separator)
  where
    go : (t : Bool) → cond t ([] ∷ []) ((b ∷ []) ∷ []) ≡ take (index_after t 0) (b ∷ []) ∷ words_of separator (drop (suc (index_after t 0)) (b ∷ []))
    go true = refl
    go false = refl
words_on separator b (c ∷ line) = go (words_on separator c line) (eqb b separator)
  where
    go : words_of separator (c ∷ line) ≡ up_to separator (c ∷ line) ∷ words_of separator (behind separator (c ∷ line))
        → (t : Bool)
        → cond t ([] ∷ words_of separator (c ∷ line)) (before b (words_of separator (c ∷ line)))
        ≡ take (index_after t (index_of separator (c ∷ line))) (b ∷ c ∷ line) ∷ words_of separator (drop (suc (index_after t (index_of separator (c ∷ line)))) (b ∷ c ∷ line))
    go later true = refl
    go later false = ap (before b) later

pub none_first : (separator : ℕ) → up_to separator [] ≡ []
unfolding up_to index_of
none_first separator = refl

pub first_word : (separator : ℕ) (line : List ℕ) → 0 < length line → words_of separator line ≡ up_to separator line ∷ words_of separator (behind separator line)
first_word separator [] h = absurd (omega arith)
first_word separator (b ∷ line) h = words_on separator b line

-- ---- a word found by its separator

pub word_here : (separator : ℕ) (line : List ℕ) (at to : ℕ) → to ≡ at + index_of separator (drop at line) → to ≤ length line
    → WordAt separator line at (record { from = at; to = to })
unfolding cut up_to behind
word_here separator line at to found inside =
    let e = found in
    let many : to - at ≡ index_of separator (drop at line) = omega arith in
    let next : to + 1 ≡ at + suc (index_of separator (drop at line)) = omega arith in
    record {
      within = record { ordered = omega arith; inside = inside };
      starts = omega arith;
      is = rw many;
      rest = rw next (sym (drop-drop (suc (index_of separator (drop at line))) at line));
    }

pub word_past : (separator : ℕ) (line : List ℕ) (at : ℕ) → length line ≤ at → WordAt separator line at (record { from = length line; to = length line })
unfolding cut up_to behind
word_past separator line at h =
    let here : drop at line ≡ [] = drop_of_length-le line h in
    let next : drop (length line + 1) line ≡ [] = drop_of_length-le line {i = length line + 1} (omega arith) in
    record {
      within = record { ordered = omega arith; inside = omega arith };
      starts = omega arith;
      is = rw (here, drop-length line) (take-nil {A = ℕ} (length line - length line) ∙ sym (take-nil (index_of separator [])));
      rest = rw (here, next, drop-nil);
    }
