-- The comment cut off, and where a word begins and ends.
use Prim.Native.Nat.{ℕ, suc, ◌+◌, ◌-◌, ◌≤◌, ◌<◌}
use mathlib.Core.Path.{◌≡◌, refl, sym, ap, ◌∙◌}
use mathlib.Core.Bool.{Bool, true, false, cond, not}
use mathlib.Core.List.{List, [], ◌∷◌}
use native.Mathlib.Omega.{arith}
use native.Mathlib.Numerals.{add-one}
use lib.ListN.{length, take, drop, get_or, drop_of_length-le}
use lib.Seq.{drop-cons, drop-drop, drop-length}
use lib.Dec.{eqb}
use borrow.Author.Tests.{not-true, not-false}
use Rattle.octets.specs.Octets.{index_of, index_after}
use Rattle.rule.specs.Words.{is_blank, uncommented, trimmed, word, behind}
use Rattle.rule.specs.Cursor.{Starts, Ends}

-- ---- the comment

before_comment : (l : List ℕ) → take (index_of 35 l) l ≡ uncommented l
unfolding index_of uncommented
before_comment [] = refl
before_comment (b ∷ l) = go (before_comment l) (eqb b 35)
  where
    go : take (index_of 35 l) l ≡ uncommented l → (t : Bool) → take (index_after t (index_of 35 l)) (b ∷ l) ≡ cond t [] (b ∷ uncommented l)
    go later true = refl
    go later false = ap (◌∷◌ b) later

-- as the search for the comment tells it
pub uncommented_is : (l : List ℕ) (end : ℕ) → end ≡ 0 + index_of 35 l → take end l ≡ uncommented l
uncommented_is l end found =
    let e : end ≡ index_of 35 l = omega arith in
    rw e (before_comment l)

-- ---- where a word begins

module _ (l : List ℕ) (at i : ℕ) (inv : trimmed (drop i l) ≡ trimmed (drop at l)) where
  pub start_at_end : length l ≤ i → Starts l at (length l)
  unfolding trimmed
  start_at_end h = let none : drop i l ≡ [] = drop_of_length-le l h in record { is = drop-length l ∙ rw none at inv; within = omega arith }

  module _ {told : Bool} (some_left : i < length l) (tells : told ≡ is_blank (get_or l i 0)) where
    pub start_here : not told ≡ true → Starts l at i
    unfolding trimmed
    start_here e =
        let b : is_blank (get_or l i 0) ≡ false = sym tells ∙ not-true told e in
        let cut : drop i l ≡ get_or l i 0 ∷ drop (suc i) l = drop-cons l i 0 some_left in
        let is : trimmed (get_or l i 0 ∷ drop (suc i) l) ≡ get_or l i 0 ∷ drop (suc i) l = rw b in
        record { is = cut ∙ sym is ∙ ap trimmed (sym cut) ∙ inv; within = omega arith }

    pub start_later : not told ≡ false → trimmed (drop (i + 1) l) ≡ trimmed (drop at l)
    unfolding trimmed
    start_later e =
        let b : is_blank (get_or l i 0) ≡ true = sym tells ∙ not-false told e in
        let is : trimmed (get_or l i 0 ∷ drop (suc i) l) ≡ trimmed (drop (suc i) l) = rw b in
        rw add-one (sym (ap trimmed (drop-cons l i 0 some_left) ∙ is) ∙ inv)

-- ---- where a word ends

-- how many bytes stand before the first blank
unfoldable pub word_length : List ℕ → ℕ
word_length [] = 0
word_length (b ∷ l) = cond (is_blank b) 0 (suc (word_length l))

word_is : (l : List ℕ) → take (word_length l) l ≡ word l
unfolding word_length word
word_is [] = refl
word_is (b ∷ l) = go (word_is l) (is_blank b)
  where
    go : take (word_length l) l ≡ word l → (t : Bool) → take (cond t 0 (suc (word_length l))) (b ∷ l) ≡ cond t [] (b ∷ word l)
    go later true = refl
    go later false = ap (◌∷◌ b) later

behind_is : (l : List ℕ) → drop (word_length l) l ≡ behind l
unfolding word_length behind
behind_is [] = refl
behind_is (b ∷ l) = go (behind_is l) (is_blank b)
  where
    go : drop (word_length l) l ≡ behind l → (t : Bool) → drop (cond t 0 (suc (word_length l))) (b ∷ l) ≡ cond t (b ∷ l) (behind l)
    go later true = refl
    go later false = later

ends_there : (l : List ℕ) (at end : ℕ) → end ≡ at + word_length (drop at l) → end ≤ length l → Ends l at end
ends_there l at end e h =
    let many : end - at ≡ word_length (drop at l) = omega arith in
    record {
      is = rw many (word_is (drop at l));
      rest = rw e (sym (drop-drop (word_length (drop at l)) at l) ∙ behind_is (drop at l));
      from = omega arith;
      within = h;
    }

module _ (l : List ℕ) (at i : ℕ) (inv : i + word_length (drop i l) ≡ at + word_length (drop at l)) where
  pub end_at_end : length l ≤ i → i ≤ length l → Ends l at (length l)
  unfolding word_length
  end_at_end h k =
      let none : word_length (drop i l) ≡ 0 = rw (drop_of_length-le l h) in
      ends_there l at (length l) (omega arith) (omega arith)

  module _ {told : Bool} (some_left : i < length l) (tells : told ≡ is_blank (get_or l i 0)) where
    here : word_length (drop i l) ≡ cond (is_blank (get_or l i 0)) 0 (suc (word_length (drop (suc i) l)))
    unfolding word_length
    here = rw (drop-cons l i 0 some_left)

    pub end_here : told ≡ true → Ends l at i
    end_here e =
        let none : word_length (drop i l) ≡ 0 = here ∙ rw (sym tells ∙ e) in
        ends_there l at i (omega arith) (omega arith)

    pub end_later : told ≡ false → i + 1 + word_length (drop (i + 1) l) ≡ at + word_length (drop at l)
    end_later e =
        let more : word_length (drop i l) ≡ suc (word_length (drop (suc i) l)) = here ∙ rw (sym tells ∙ e) in
        let step : i + 1 ≡ suc i = omega arith in
        rw step (omega arith)
