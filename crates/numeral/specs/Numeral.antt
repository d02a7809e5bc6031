-- A number of 64 bits: "optional minus, digits, no leading zero, no "-0"", as document 01 has a whole number, and any that 64 bits hold.
use Rattle.std.specs.Prelude.{ℕ, true, false, cond, List, drop, Option, Some, None, ℤ}
use Rattle.paper.specs.Forms.{has_minus, signed, at_most}
use Rattle.forms.specs.Sizes.{whole_part}
use Rattle.signed.specs.Naturals.{size_of}

unfoldable pub numeral_of : List ℕ → Option ℤ
numeral_of s =
    cond (has_minus s) (signed true (at_most 9223372036854775808 (whole_part (drop 1 s)))) (signed false (at_most 9223372036854775807 (whole_part s)))

-- what a word tells as such a number, where that is not negative
unfoldable pub natural_by : Option ℤ → Option ℕ
natural_by (Some z) = size_of z
natural_by None = None

unfoldable pub natural_in : List ℕ → Option ℕ
natural_in s = natural_by (numeral_of s)
