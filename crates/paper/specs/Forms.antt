-- Document 01, "One line, one record": the forms of a whole number and of a time, read from the bytes of a field, and a time
-- written; and the two quoted descriptors of change request 8. A field that is not in a form has no number in it. A byte is its number: '0'
-- to '9' are 48 to 57, '-' is 45, '.' is 46.
use Rattle.std.specs.Prelude.{ℕ, zero, suc, ◌+◌, ◌-◌, ◌*◌, ◌/◌, ◌%◌, ◌^◌, List, [], ◌∷◌, ◌++◌, Bool, true, false, cond, ◌&&◌, not, length, get_or, take, drop, ℤ, pos, negsuc, ltb, leb, eqb, Option, Some, None}
use Rattle.paper.specs.Text.{is_same}

-- ---- digits

unfoldable pub is_digit : ℕ → Bool
is_digit b = leb 48 b && leb b 57

-- the number that v makes with the digits after it; none where a byte is no digit
unfoldable pub digits_from : ℕ → List ℕ → Option ℕ
digits_from v [] = Some v
digits_from v (b ∷ s) = let rest = digits_from (v * 10 + (b - 48)) s in cond (is_digit b) rest None

-- "digits, no leading zero": at least one byte, and a 0 in front only where it stands alone
unfoldable pub unled : List ℕ → Bool
unled s = ltb 0 (length s) && not (ltb 1 (length s) && eqb (get_or s 0 0) 48)

-- ---- the sign

-- "optional minus"
unfoldable pub has_minus : List ℕ → Bool
has_minus s = eqb (get_or s 0 0) 45

-- "no "-0"", "-0.000000" is bad: behind a minus a zero is nothing good
unfoldable pub signed : Bool → Option ℕ → Option ℤ
signed minus None = None
signed true (Some zero) = None
signed true (Some (suc n)) = Some (negsuc n)
signed false (Some n) = Some (pos n)

-- a sign, and then a size in the form that `size` reads: negated after the digits are read
unfoldable pub behind_sign : (List ℕ → Option ℕ) → List ℕ → Option ℤ
behind_sign size s = signed (has_minus s) (cond (has_minus s) (size (drop 1 s)) (size s))

-- ---- a whole number

unfoldable pub at_most : ℕ → Option ℕ → Option ℕ
at_most most None = None
at_most most (Some n) = cond (leb n most) (Some n) None

-- "digits, no leading zero, .. size at most 999,999,999"
unfoldable pub whole_size : List ℕ → Option ℕ
whole_size s = cond (unled s) (at_most 999999999 (digits_from 0 s)) None

-- "Whole number: optional minus, digits, no leading zero, no "-0", size at most 999,999,999."
unfoldable pub whole_of : List ℕ → Option ℤ
whole_of = behind_sign whole_size

-- ---- a time

-- "a whole part of 1 to 9 digits without a leading zero (a single 0 is good), a point, six digits": the last six bytes are
-- digits, the byte before them is the point, and the bytes before that are the whole part
unfoldable pub time_size : List ℕ → Option ℕ
time_size s =
    let w = length s - 7 in
    let form = leb (length s) 16 && unled (take w s) && eqb (get_or s w 0) 46 in
    cond form (digits_from 0 (take w s ++ drop (w + 1) s)) None

-- "Time: optional minus, .. "-0.000000" is bad. Its meaning is signed microseconds"
unfoldable pub time_of : List ℕ → Option ℤ
time_of = behind_sign time_size

-- ---- a quoted descriptor

-- a field that is this text and no other; what it says is 0
unfoldable pub text_of : List ℕ → List ℕ → Option ℤ
text_of text s = cond (is_same s text) (Some (pos 0)) None

-- "The descriptor is the quoted text "%d%lf" for times": '"' is 34, '%' is 37, 'd' is 100, 'f' is 102, 'l' is 108
unfoldable pub times_quoted : List ℕ → Option ℤ
times_quoted = text_of (34 ∷ 37 ∷ 100 ∷ 37 ∷ 108 ∷ 102 ∷ 34 ∷ [])

-- "or "%d%d" for the other two"
unfoldable pub numbers_quoted : List ℕ → Option ℤ
numbers_quoted = text_of (34 ∷ 37 ∷ 100 ∷ 37 ∷ 100 ∷ 34 ∷ [])

-- ---- a time written "in the form below"

-- the last k digits of n
unfoldable pub fixed : ℕ → ℕ → List ℕ
fixed zero n = []
fixed (suc k) n = fixed k (n / 10) ++ ((n % 10 + 48) ∷ [])

-- how many digits n has: one at least, and k + 1 at most
unfoldable pub places_from : ℕ → ℕ → ℕ
places_from zero n = 1
places_from (suc k) n = cond (leb (10 ^ suc k) n) (suc k + 1) (places_from k n)

-- whole seconds in as many digits as they have, a point, six digits
unfoldable pub size_shown : ℕ → List ℕ
size_shown n = fixed (places_from 8 (n / 1000000)) (n / 1000000) ++ (46 ∷ fixed 6 (n % 1000000))

unfoldable pub time_shown : ℤ → List ℕ
time_shown (pos n) = size_shown n
time_shown (negsuc n) = 45 ∷ size_shown (suc n)
