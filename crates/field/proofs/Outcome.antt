-- The statements leave one answer.
use Rattle.std.specs.Prelude.{Option, Some, None, ℤ}
use Prim.Native.Nat.{ℕ, ◌+◌, ◌≤◌}
use mathlib.Core.Path.{◌≡◌, refl, sym, ap, ◌∙◌}
use mathlib.Core.List.{List, [], ◌∷◌}
use mathlib.Core.Bool.{Bool, true, false, cond}
use native.Mathlib.Omega.{arith}
use lib.ListN.{length, drop, length-drop}
use lib.Dec.{ltb}
use borrow.Author.Tests.{ltb-true, ltb-false}
use Rattle.paper.specs.Text.{is_same}
use Rattle.paper.specs.Forms.{is_digit, digits_from, unled, has_minus, signed, behind_sign, at_most, whole_size, whole_of, time_size, time_of, text_of, times_quoted, numbers_quoted}
use Rattle.paper.specs.Line.{First}
use Rattle.field.specs.declared.Form.{Form}
use Rattle.field.specs.declared.Form.TheVariants.{Whole, Time, TimesQuoted, NumbersQuoted}
use Rattle.field.specs.Cursor.{rest_at, got_of, got_next, counted_of, counted_next, Tells, read_as}

-- two cursors with the same fields behind them, neither of them far past the end, stand at one place
pub one_cursor : (l : List ℕ) (n m : ℕ) → rest_at l n ≡ rest_at l m → n ≤ length l + 1 → m ≤ length l + 1 → n ≡ m
unfolding rest_at
one_cursor l n m e p q = go (ltb (length l) n) (ltb (length l) m) refl refl e
  where
    go : (a b : Bool) → ltb (length l) n ≡ a → ltb (length l) m ≡ b → cond a None (Some (drop n l)) ≡ cond b None (Some (drop m l)) → n ≡ m
    go true true f g e = omega (arith, ltb-true (length l) n f, ltb-true (length l) m g)
    go true false f g e = cc
    go false true f g e = cc
    go false false f g e =
        let d : drop n l ≡ drop m l = cc in
        let s : length (drop n l) ≡ length (drop m l) = ap length d in
        omega (arith, simp length-drop at s, ltb-false (length l) n f, ltb-false (length l) m g)

same_got : (l : List ℕ) (r q : Option (ℤ × ℕ)) → got_of l r ≡ got_of l q → got_next r ≤ length l + 1 → got_next q ≤ length l + 1 → r ≡ q
unfolding got_of
same_got l (Some (v, n)) (Some (u, m)) e a b =
    let k : v ≡ u = cc in
    let d : rest_at l n ≡ rest_at l m = cc in
    rw (k, one_cursor l n m d a b)
same_got l (Some (v, n)) None e a b = cc
same_got l None (Some (u, m)) e a b = cc
same_got l None None e a b = refl

pub one_value : (l : List ℕ) (there : First) (r q : Option (ℤ × ℕ)) → Tells l (got_of l r) there (got_next r) → Tells l (got_of l q) there (got_next q) → r ≡ q
one_value l there r q e f = same_got l r q (e.is ∙ sym f.is) e.near f.near

same_counted : (l : List ℕ) (r q : Option (ℕ × ℕ)) → counted_of l r ≡ counted_of l q → counted_next r ≤ length l + 1 → counted_next q ≤ length l + 1 → r ≡ q
unfolding counted_of
same_counted l (Some (v, n)) (Some (u, m)) e a b =
    let k : v ≡ u = cc in
    let d : rest_at l n ≡ rest_at l m = cc in
    rw (k, one_cursor l n m d a b)
same_counted l (Some (v, n)) None e a b = cc
same_counted l None (Some (u, m)) e a b = cc
same_counted l None None e a b = refl

pub one_count : (l : List ℕ) (there : First) (r q : Option (ℕ × ℕ)) → Tells l (counted_of l r) there (counted_next r) → Tells l (counted_of l q) there (counted_next q)
    → r ≡ q
one_count l there r q e f = same_counted l r q (e.is ∙ sym f.is) e.near f.near

-- ---- the form that a field is read in

is_good : Option ℤ → Bool
is_good (Some v) = true
is_good None = false

-- by words that are good in one form only: "0", "0.000000" and the descriptor of times
form_of : (List ℕ → Option ℤ) → Form
form_of reads =
    cond (is_good (reads (48 ∷ []))) Whole
    (cond (is_good (reads (48 ∷ 46 ∷ 48 ∷ 48 ∷ 48 ∷ 48 ∷ 48 ∷ 48 ∷ []))) Time
    (cond (is_good (reads (34 ∷ 37 ∷ 100 ∷ 37 ∷ 108 ∷ 102 ∷ 34 ∷ []))) TimesQuoted NumbersQuoted))

form_back : (form : Form) → form ≡ form_of (read_as form)
unfolding is_good form_of read_as is_same is_digit digits_from unled has_minus signed behind_sign at_most whole_size whole_of time_size time_of text_of times_quoted numbers_quoted
form_back Whole = refl
form_back Time = refl
form_back TimesQuoted = refl
form_back NumbersQuoted = refl

pub one_form : (there : List ℕ → Option ℤ) (r q : Form) → read_as r ≡ there → read_as q ≡ there → r ≡ q
one_form there r q e f = form_back r ∙ ap form_of (e ∙ sym f) ∙ sym (form_back q)
