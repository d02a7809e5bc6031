-- "exact at -1, at zero and at both ends of the range": those fields themselves, and the bad ones beside them.
use Rattle.std.specs.Prelude.{Some, None}
use mathlib.Core.Path.{◌≡◌, refl}
use mathlib.Core.List.{[], ◌∷◌, ◌++◌}
use lib.ListN.{replicate}
use lib.IntN.{pos, negsuc}
use Rattle.paper.specs.Forms.{is_digit, digits_from, unled, has_minus, signed, behind_sign, at_most, whole_size, whole_of, time_size, time_of}

-- ---- times: "0.000000", "-0.000000", "-0.000001", "999999999.999999", "-999999999.999999", "1000000000.000000"

zero_time : time_of (48 ∷ 46 ∷ replicate 6 48) ≡ Some (pos 0)
unfolding is_digit digits_from unled has_minus signed behind_sign time_size time_of
zero_time = refl

minus_zero_time : time_of (45 ∷ 48 ∷ 46 ∷ replicate 6 48) ≡ None
unfolding is_digit digits_from unled has_minus signed behind_sign time_size time_of
minus_zero_time = refl

minus_one_time : time_of (45 ∷ 48 ∷ 46 ∷ replicate 5 48 ++ (49 ∷ [])) ≡ Some (negsuc 0)
unfolding is_digit digits_from unled has_minus signed behind_sign time_size time_of
minus_one_time = refl

high_time : time_of (replicate 9 57 ++ (46 ∷ replicate 6 57)) ≡ Some (pos 999999999999999)
unfolding is_digit digits_from unled has_minus signed behind_sign time_size time_of
high_time = refl

low_time : time_of (45 ∷ replicate 9 57 ++ (46 ∷ replicate 6 57)) ≡ Some (negsuc 999999999999998)
unfolding is_digit digits_from unled has_minus signed behind_sign time_size time_of
low_time = refl

past_high_time : time_of (49 ∷ replicate 9 48 ++ (46 ∷ replicate 6 48)) ≡ None
unfolding is_digit digits_from unled has_minus signed behind_sign time_size time_of
past_high_time = refl

-- ---- whole numbers: "0", "-0", "-1", "999999999", "-999999999", "1000000000"

zero_whole : whole_of (48 ∷ []) ≡ Some (pos 0)
unfolding is_digit digits_from unled has_minus signed behind_sign at_most whole_size whole_of
zero_whole = refl

minus_zero_whole : whole_of (45 ∷ 48 ∷ []) ≡ None
unfolding is_digit digits_from unled has_minus signed behind_sign at_most whole_size whole_of
minus_zero_whole = refl

minus_one_whole : whole_of (45 ∷ 49 ∷ []) ≡ Some (negsuc 0)
unfolding is_digit digits_from unled has_minus signed behind_sign at_most whole_size whole_of
minus_one_whole = refl

high_whole : whole_of (replicate 9 57) ≡ Some (pos 999999999)
unfolding is_digit digits_from unled has_minus signed behind_sign at_most whole_size whole_of
high_whole = refl

low_whole : whole_of (45 ∷ replicate 9 57) ≡ Some (negsuc 999999998)
unfolding is_digit digits_from unled has_minus signed behind_sign at_most whole_size whole_of
low_whole = refl

past_high_whole : whole_of (49 ∷ replicate 9 48) ≡ None
unfolding is_digit digits_from unled has_minus signed behind_sign at_most whole_size whole_of
past_high_whole = refl
