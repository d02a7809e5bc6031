-- The forms of values.
use Rattle.std.specs.Prelude.{Option, Some, None}
use Rattle.std.specs.List.{starts_with}
use Prim.Native.Nat.{ℕ, ◌+◌, ◌-◌, ◌≤◌}
use mathlib.Core.Path.{◌≡◌, refl, sym, ◌∙◌}
use mathlib.Core.Bool.{Bool, true, false, ◌&&◌}
use mathlib.Core.List.{List, [], ◌∷◌}
use native.Mathlib.Omega.{arith}
use lib.ListN.{length, take, drop, length-drop, drop_of_length-le}
use lib.Seq.{take_all}
use lib.IntN.{ℤ}
use lib.Dec.{eqb}
use borrow.Author.Tests.{eqb-true, eqb-false, eq-eqb, ne_eqb}
use Rattle.octets.specs.Octets.{index_of}
use Rattle.paper.specs.Text.{bytes_of, is_same}
use Rattle.paper.specs.Forms.{has_minus, unled, signed, at_most}
use Rattle.forms.specs.Sizes.{whole_part}
use Rattle.numeral.specs.Numeral.{numeral_of, natural_by, natural_in}
use Rattle.named.specs.Words.{up_to, behind}
use Rattle.named.specs.Values.{forgotten, choice_of, expected, three_of, levels_of, switch_of, share_by, share_of, good_for}
use Rattle.named.specs.Parts.{cut, WordAt}
use Rattle.named.specs.declared.Span.{Span}
use Rattle.named.specs.declared.Name.{Name}
use Rattle.named.specs.declared.levels.Wanted.TheVariants.{Expected}
use Rattle.named.specs.declared.Name.TheVariants.{Choice, Trace, Table, Levels, Statistics, Share, Out}

-- ---- a value that was forgotten

turned : (a b : ℕ) → eqb a b ≡ eqb b a
turned a b = go (eqb a b) refl
  where
    go : (t : Bool) → eqb a b ≡ t → t ≡ eqb b a
    go true e = sym (eq-eqb b a (sym (eqb-true a b e)))
    go false e = sym (ne_eqb b a (λ q. eqb-false a b e (sym q)))

pub begins : (value : List ℕ) → forgotten value ≡ starts_with eqb value (45 ∷ 45 ∷ [])
unfolding forgotten
begins [] = refl
begins (a ∷ []) = rw (turned a 45)
begins (a ∷ b ∷ rest) = rw (turned a 45, turned b 45) (go (eqb 45 a) (eqb 45 b))
  where
    go : (s t : Bool) → (s && t) ≡ (s && (t && true))
    go true true = refl
    go true false = refl
    go false t = refl

-- ---- the levels

pub all_good : {first second third : Option ℤ} {a a' b b' c c' : ℤ} → first ≡ Some a → second ≡ Some b → third ≡ Some c
    → a' ≡ a → b' ≡ b → c' ≡ c → Some (Expected a' b' c') ≡ expected first second third
unfolding expected
all_good e f g p q r = rw (e, f, g, p, q, r)

third_bad : (first second : Option ℤ) → expected first second None ≡ None
unfolding expected
third_bad None second = refl
third_bad (Some a) None = refl
third_bad (Some a) (Some b) = refl

-- nothing is no number
none_number : numeral_of [] ≡ None
unfolding numeral_of signed has_minus at_most whole_part unled
none_number = refl

module _ {value : List ℕ} {picl user : Span} (first : WordAt 44 value 0 picl) (second : WordAt 44 value (picl.to + 1) user) where
  user_there : cut value user ≡ up_to 44 (behind 44 value)
  user_there = second.is ∙ rw first.rest

  trace_there : drop (user.to + 1) value ≡ behind 44 (behind 44 value)
  trace_there = second.rest ∙ rw first.rest

  pub no_third : length value ≤ user.to → three_of value ≡ None
  unfolding three_of
  no_third h =
      let none_left : behind 44 (behind 44 value) ≡ [] = sym trace_there ∙ drop_of_length-le value {i = user.to + 1} (omega arith) in
      rw (none_left, none_number) (third_bad _ _)

  pub three_there : three_of value ≡ expected (numeral_of (cut value picl)) (numeral_of (cut value user)) (numeral_of (take (length value - (user.to + 1)) (drop (user.to + 1) value)))
  unfolding three_of
  three_there =
      let all : take (length value - (user.to + 1)) (drop (user.to + 1) value) ≡ drop (user.to + 1) value = take_all (length value - (user.to + 1)) (drop (user.to + 1) value) (rw length-drop (omega arith)) in
      rw (all, first.is, user_there, trace_there)

-- ---- no good value is empty

pub empty_bad : (name : Name) → good_for name [] ≡ false
unfolding good_for choice_of switch_of share_of share_by natural_in natural_by is_same bytes_of levels_of three_of up_to behind expected numeral_of signed has_minus at_most whole_part unled index_of
empty_bad Choice = refl
empty_bad Trace = refl
empty_bad Table = refl
empty_bad Levels = refl
empty_bad Statistics = refl
empty_bad Share = refl
empty_bad Out = refl
