-- A time counted from one microsecond before the least that the format holds, and a record put to others.
use Rattle.std.proofs.Common.{◌≡◌, ℕ, suc, ◌+◌, ◌%◌, ◌^◌, ◌≤◌, ℤ, pos, negsuc, ◌+ℤ◌, nat_abs, refl, ap, ◌∙◌, arith, to_z-of_z, w64, SFits, to_z, of_z, le-ltb}
use Rattle.reading.specs.Tidy.{InRange}
use Rattle.signed.specs.Codes.{code_of}
use Rattle.paper.specs.Statistics.{length_in}
use Rattle.paper.specs.declared.Entry.{Entry}
use Rattle.paper.specs.declared.Role.{Role}
use Rattle.statistics.specs.declared.total.Total.{Total}
use Rattle.statistics.specs.Totals.{since_least, with_one}

pub since_is : (t : ℤ) → InRange t → t +ℤ pos 1000000000000000 ≡ pos (since_least t)
unfolding since_least
since_is (pos n) h = refl
since_is (negsuc n) h = rw (le-ltb 1000000000000000 (suc n) (omega arith))

pub since_low : (t : ℤ) → InRange t → since_least t ≤ 1999999999999999
unfolding since_least
since_low (pos n) h = omega arith
since_low (negsuc n) h = rw (le-ltb 1000000000000000 (suc n) (omega arith)) (omega arith)

-- ---- by the code of a time

pub code_in_range : (t : ℤ) → code_of t ≤ 1999999999999998 → InRange t
unfolding code_of
code_in_range (pos n) h = omega arith
code_in_range (negsuc n) h = omega arith

pub code_low : (t : ℤ) → InRange t → code_of t ≤ 1999999999999998
unfolding code_of
code_low (pos n) h = omega arith
code_low (negsuc n) h = omega arith

-- ---- as the code has it, by way of a signed sum
module _ {t : ℤ} (fits : SFits w64 t) (h : InRange t) where
  sum_is : to_z w64 (of_z w64 t) +ℤ pos 1000000000000000 ≡ pos (since_least t)
  sum_is = rw (to_z-of_z fits) (since_is t h)

  pub sum_fits : SFits w64 (to_z w64 (of_z w64 t) +ℤ pos 1000000000000000)
  sum_fits = rw sum_is (record { sfits = omega (arith, since_low t h) })

  back_is : to_z w64 (of_z w64 (to_z w64 (of_z w64 t) +ℤ pos 1000000000000000)) ≡ pos (since_least t)
  back_is = to_z-of_z sum_fits ∙ sum_is

  pub sum_told : nat_abs (to_z w64 (of_z w64 (to_z w64 (of_z w64 t) +ℤ pos 1000000000000000))) ≡ since_least t
  sum_told = ap nat_abs back_is

-- ---- a record with those before it

pub still_in_range : {t u : ℤ} → t ≡ u → InRange u → InRange t
still_in_range e h = rw e h

pub one_more : (e : Entry) (t : Total) {time length times lengths : ℕ} {at : ℤ} {role : Role} → time ≡ since_least at → at ≡ e.body.time
    → length ≡ length_in role → role ≡ e.body.role → times ≡ (t.times + time) % 2 ^ 64 → lengths ≡ (t.lengths + length) % 2 ^ 64
    → record { count = t.count + 1; times = times; lengths = lengths } ≡ with_one e t
unfolding with_one
one_more e t a b c d f g = rw (f, g, a, b, c, d)
