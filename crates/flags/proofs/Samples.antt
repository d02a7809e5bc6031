-- Lines of arguments, computed from the definitions. 32 is the space.
use Rattle.std.specs.Prelude.{Some, None}
use Prim.Native.String.{String}
use mathlib.Core.Path.{◌≡◌, refl}
use lib.IntN.{pos, negsuc}
use Rattle.octets.specs.Octets.{index_of}
use Rattle.paper.specs.Text.{bytes_of, is_same}
use Rattle.paper.specs.Forms.{is_digit, digits_from, unled, has_minus, signed, at_most}
use Rattle.forms.specs.Sizes.{whole_part}
use Rattle.signed.specs.Naturals.{size_of}
use Rattle.numeral.specs.Numeral.{numeral_of, natural_by, natural_in}
use Rattle.named.specs.Words.{before, words_of, up_to, behind}
use Rattle.named.specs.Values.{written, name_of, forgotten, choice_of, expected, three_of, levels_of, switch_of, share_by, share_of, good_for}
use Rattle.flags.specs.Plan.{Meant, bad, missing, judge, no_values, value_of, with_value, is_given, accepts, taken, asked_of, needed, concluded, on_pair, plan_from, plan_of}
use Rattle.named.specs.declared.Name.TheVariants.{Choice, Table, Statistics, Share}

unfoldable pub asks : String → Meant
asks line = plan_of (words_of 32 (bytes_of line))

pub plan_sample : (asks "--levels -1,0,7 --table t --statistics on --share 500 --trace a.trf --choice lenient"
    ≡ judge (record { asked = record { choice = 2; levels = 1; picl = negsuc 0; user = pos 0; trace = pos 7; statistics = 1; share = 500 }; trace = bytes_of "a.trf"; table = bytes_of "t"; out = None }))
    × (asks "--choice strict --trace a --table ./--t --levels off --out o --share 0 --statistics off"
    ≡ judge (record { asked = record { choice = 1; levels = 0; picl = pos 0; user = pos 0; trace = pos 0; statistics = 0; share = 0 }; trace = bytes_of "a"; table = bytes_of "./--t"; out = Some (bytes_of "o") }))
    × (asks "--choice strict --levls off" ≡ bad (bytes_of "--levls"))
    × (asks "--choice=strict --trace a" ≡ bad (bytes_of "--choice=strict"))
    × (asks "--trace a --trace b" ≡ bad (bytes_of "--trace"))
    × (asks "--trace --table t" ≡ bad (bytes_of "--trace"))
    × (asks "--trace  --table t" ≡ bad (bytes_of "--trace"))
    × (asks "--levels off --choice" ≡ bad (bytes_of "--choice"))
    × (asks "--choice 1 --levls off" ≡ bad (bytes_of "--choice"))
    × (asks "--levels 1,2" ≡ bad (bytes_of "--levels"))
    × (asks "--levels 1,2,3," ≡ bad (bytes_of "--levels"))
    × (asks "--levels 1,2,03" ≡ bad (bytes_of "--levels"))
    × (asks "--levels -0,2,3" ≡ bad (bytes_of "--levels"))
    × (asks "--statistics 1" ≡ bad (bytes_of "--statistics"))
    × (asks "--statistics on --statistics off" ≡ bad (bytes_of "--statistics"))
    × (asks "--share x" ≡ bad (bytes_of "--share"))
    × (asks "--share -1" ≡ bad (bytes_of "--share"))
    × (asks "--share 007" ≡ bad (bytes_of "--share"))
    × (asks "--share 1 --share 1" ≡ bad (bytes_of "--share"))
    × (asks "--choice strict --trace a --levels off" ≡ missing Table)
    × (asks "--choice strict --trace a --table t --levels off --out o" ≡ missing Statistics)
    × (asks "--choice strict --trace a --table t --levels off --statistics off --out o" ≡ missing Share)
    × (asks "" ≡ missing Choice)
unfolding asks before words_of up_to behind is_same written name_of forgotten choice_of expected three_of levels_of switch_of share_by share_of good_for no_values value_of with_value is_given accepts taken asked_of needed concluded on_pair plan_from plan_of bytes_of index_of is_digit digits_from unled has_minus signed at_most whole_part numeral_of size_of natural_by natural_in
plan_sample = (refl, refl, refl, refl, refl, refl, refl, refl, refl, refl, refl, refl, refl, refl, refl, refl, refl, refl, refl, refl, refl, refl, refl)

-- the largest share is itself; every number above it is one that is refused, and the largest number that 64 bits hold does not wrap
pub share_sample : (share_of (bytes_of "1000") ≡ 1000) × (share_of (bytes_of "1001") ≡ 1001) × (share_of (bytes_of "4294967297") ≡ 1001)
    × (share_of (bytes_of "9223372036854775807") ≡ 1001)
unfolding share_of share_by bytes_of is_digit digits_from unled has_minus signed at_most whole_part numeral_of size_of natural_by natural_in
share_sample = (refl, refl, refl, refl)
