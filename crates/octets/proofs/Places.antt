-- The place of the first b, a byte at a time.
use Rattle.std.proofs.Common.{max, ℕ, ◌+◌, ◌≡◌, ◌<◌, ◌≤◌, List, [], ◌∷◌, Bool, true, false, length, drop, get_or, arith, eqb, eq-eqb, ne_eqb, drop-cons, drop_of_length-le, add-one, add-zero}
use Rattle.octets.specs.Octets.{index_of, index_after}

-- it is within the bytes, or their end
pub index_within : (b : ℕ) (l : List ℕ) → index_of b l ≤ length l
unfolding index_of
index_within b [] = omega arith
index_within b (x ∷ l) = go (eqb x b) (index_within b l)
  where
    go : (t : Bool) → index_of b l ≤ length l → index_after t (index_of b l) ≤ length (x ∷ l)
    go true h = omega arith
    go false h = omega arith

module _ (b : ℕ) (l : List ℕ) (i : ℕ) where
  pub found_here : i < length l → get_or l i 0 ≡ b → i + index_of b (drop i l) ≡ i
  unfolding index_of
  found_here low e = rw (drop-cons l i 0 low, eq-eqb (get_or l i 0) b e) (add-zero i)

  pub found_later : i < length l → (get_or l i 0 ≡ b → ⊥) → i + index_of b (drop i l) ≡ i + 1 + index_of b (drop (i + 1) l)
  unfolding index_of
  found_later low e = rw (drop-cons l i 0 low, ne_eqb (get_or l i 0) b e, add-one) (omega arith)

  pub found_nowhere : length l ≤ i → i + index_of b (drop i l) ≡ i
  unfolding index_of
  found_nowhere high = rw (drop_of_length-le l high) (add-zero i)

-- nothing was found up to the end
pub at_the_end : (b : ℕ) (l : List ℕ) (at i : ℕ) → at + index_of b (drop at l) ≡ i + index_of b (drop i l) → length l ≤ i → at ≤ i
    → (at ≤ length l → i ≤ length l) → max at (length l) ≡ at + index_of b (drop at l)
at_the_end b l at i e past from upto = grind (arith, e, found_nowhere b l i past, found_nowhere b l at)
