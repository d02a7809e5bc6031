-- The seven names, and the form that each one's value has.
use Rattle.std.specs.Prelude.{ℕ, Bool, cond, ◌&&◌, not, List, length, get_or, eqb, ltb, Option, Some, None, is_some, ℤ}
use Rattle.paper.specs.Text.{bytes_of, is_same}
use Rattle.numeral.specs.Numeral.{numeral_of, natural_in}
use Rattle.named.specs.Words.{up_to, behind}
use Rattle.named.specs.declared.Name.{Name}
use Rattle.named.specs.declared.Name.TheVariants.{Choice, Trace, Table, Levels, Statistics, Share, Out}
use Rattle.named.specs.declared.levels.Wanted.{Wanted}
use Rattle.named.specs.declared.levels.Wanted.TheVariants.{Off, Expected}

-- ---- names

unfoldable pub written : Name → List ℕ
written Choice = bytes_of "--choice"
written Trace = bytes_of "--trace"
written Table = bytes_of "--table"
written Levels = bytes_of "--levels"
written Statistics = bytes_of "--statistics"
written Share = bytes_of "--share"
written Out = bytes_of "--out"

-- whose name a word is: none where it is nobody's
unfoldable pub name_of : List ℕ → Option Name
name_of word =
    cond (is_same word (written Choice)) (Some Choice)
    (cond (is_same word (written Trace)) (Some Trace)
    (cond (is_same word (written Table)) (Some Table)
    (cond (is_same word (written Levels)) (Some Levels)
    (cond (is_same word (written Statistics)) (Some Statistics)
    (cond (is_same word (written Share)) (Some Share)
    (cond (is_same word (written Out)) (Some Out) None))))))

-- ---- values

-- a value that begins with `--` (45 is the minus) is the next name: the value itself was forgotten
unfoldable pub forgotten : List ℕ → Bool
forgotten value = eqb (get_or value 0 0) 45 && eqb (get_or value 1 0) 45

-- `strict` is 1 and `lenient` is 2; 0 for every other word
unfoldable pub choice_of : List ℕ → ℕ
choice_of value = cond (is_same value (bytes_of "strict")) 1 (cond (is_same value (bytes_of "lenient")) 2 0)

unfoldable pub expected : Option ℤ → Option ℤ → Option ℤ → Option Wanted
expected None user trace = None
expected (Some picl) None trace = None
expected (Some picl) (Some user) None = None
expected (Some picl) (Some user) (Some trace) = Some (Expected picl user trace)

-- three numbers of 64 bits with one comma (44) between two and nothing else: the third goes to the end, and with a comma in it, or with
-- nothing in it, it is no number
unfoldable pub three_of : List ℕ → Option Wanted
three_of value =
    let second = behind 44 value in
    expected (numeral_of (up_to 44 value)) (numeral_of (up_to 44 second)) (numeral_of (behind 44 second))

unfoldable pub levels_of : List ℕ → Option Wanted
levels_of value = let three = three_of value in cond (is_same value (bytes_of "off")) (Some Off) three

-- `off` is 0 and `on` is 1; every other word is 2, which is no switch
unfoldable pub switch_of : List ℕ → ℕ
switch_of value = cond (is_same value (bytes_of "off")) 0 (cond (is_same value (bytes_of "on")) 1 2)

-- a share of 0 to 1,000 is itself. Every number above is 1,001, which is refused when it is judged, and what is no number from 0 on is
-- 1,002, which is no share
unfoldable pub share_by : Option ℕ → ℕ
share_by (Some share) = cond (ltb 1000 share) 1001 share
share_by None = 1002

unfoldable pub share_of : List ℕ → ℕ
share_of value = share_by (natural_in value)

-- whether a value has its name's form; a file's name is any bytes, but not none
unfoldable pub good_for : Name → List ℕ → Bool
good_for Choice value = not (eqb (choice_of value) 0)
good_for Trace value = not (eqb (length value) 0)
good_for Table value = not (eqb (length value) 0)
good_for Levels value = is_some (levels_of value)
good_for Statistics value = not (eqb (switch_of value) 2)
good_for Share value = not (eqb (share_of value) 1002)
good_for Out value = not (eqb (length value) 0)
