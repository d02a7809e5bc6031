-- A list that pairs are laid into, place after place.
use mathlib.Core.Path.{◌≡◌, refl, sym, ap, ◌∙◌}
use Prim.Native.Nat.{ℕ, zero, suc, ◌+◌, ◌<◌, ◌≤◌}
use native.Mathlib.Numerals.{add-one}
use native.Mathlib.Omega.{arith}
use mathlib.Core.List.{List, ◌∷◌, ◌++◌}
use lib.ListN.{length, get_or, set, take, drop, length-set}
use lib.Seq.{length-take-le, take-length, take-suc, drop-cons, append_snoc, set_at}
use Rattle.paper.specs.declared.Pair.{Pair}
use Rattle.mail.specs.Mail.{no_pair, pair_at, Holds}
use Rattle.listing.specs.Plan.{laid}

module _ (numbers : List ℕ) (list : List Pair) where
  pub laid_none : list ≡ laid numbers list 0
  unfolding laid
  laid_none = refl

  pub laid_length : (n : ℕ) → length (laid numbers list n) ≡ length list
  unfolding laid
  laid_length zero = refl
  laid_length (suc n) = length-set (laid numbers list n) n (pair_at numbers n) ∙ laid_length n

  -- one place more
  pub laid_more : (n : ℕ) (p : Pair) → p ≡ pair_at numbers n → set (laid numbers list n) n p ≡ laid numbers list (n + 1)
  unfolding laid
  laid_more n p e = rw (add-one n) (ap (λ (x : Pair). set (laid numbers list n) n x) e)

  -- all of them
  module _ {items : List Pair} {count : ℕ} (holds : Holds items count numbers) (enough : count ≤ length list) where
    so_far : (n : ℕ) → n ≤ count → laid numbers list n ≡ take n items ++ drop n list
    unfolding laid
    so_far zero h = refl
    so_far (suc n) h =
        let many = holds.many in
        let small : n < length items = omega (arith, h, many) in
        let in_list : n < length list = omega (arith, h, enough) in
        let long : length (take n items) ≡ n = length-take-le n items (omega (arith, small)) in
        let p = get_or items n no_pair in
        let here : set (take n items ++ get_or list n no_pair ∷ drop (suc n) list) n p ≡ take n items ++ p ∷ drop (suc n) list =
        set_at (take n items) _ _ _ n long in
        rw (so_far n (omega (arith, h)), holds.each n h, drop-cons list n no_pair in_list, here, take-suc items n no_pair small)
        (sym (append_snoc (take n items) (get_or items n no_pair) (drop (suc n) list)))

    pub laid_all : laid numbers list count ≡ items ++ drop count list
    laid_all =
        let all : take count items ≡ items = rw (← holds.many) (take-length items) in
        so_far count (omega arith) ∙ ap (λ (l : List Pair). l ++ drop count list) all
