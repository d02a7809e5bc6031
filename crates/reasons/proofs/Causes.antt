-- Why a record of a chain has its time, by the tests told.
use Prim.Native.Nat.{ℕ}
use Rattle.std.specs.Prelude.{Some, None, slice_get}
use Rattle.std.proofs.lemmas.Option.{same_Some}
use mathlib.Core.Path.{◌≡◌, refl, sym, ◌∙◌}
use mathlib.Core.Bool.{Bool, true, false}
use mathlib.Core.List.{List, [], ◌∷◌}
use lib.ListN.{get_or}
use lib.IntN.{ℤ, pos, ◌+ℤ◌}
use borrow.Author.Tests.{eq-eqb, ne_eqb}
use Rattle.paper.specs.Tests.{eq_z}
use Rattle.paper.specs.Gaps.{apart}
use Rattle.paper.specs.Clock.{time_at}
use Rattle.paper.specs.declared.Entry.{Entry}
use Rattle.lines.specs.Records.{stamped_at}
use Rattle.lines.specs.declared.Cause.{Cause}
use Rattle.lines.specs.declared.Cause.TheVariants.{Original, Before, Kept, Sent}
use Rattle.lines.specs.declared.Stamped.{Stamped}
use Rattle.reasons.specs.Reasons.{by_processor, cause_behind, cause_by, cause_of}

-- ---- by the processor

module _ (kept : ℕ) (earlier own : Stamped) where
  pub nothing_kept : kept ≡ 0 → Before ≡ by_processor kept earlier own
  unfolding by_processor
  nothing_kept e = rw (eq-eqb kept 0 e)

  pub gap_kept : (kept ≡ 0 → ⊥) → {x y : ℤ} {gap : ℕ} → x ≡ earlier.original → y ≡ own.original → gap ≡ apart x y
      → Kept kept gap earlier.line ≡ by_processor kept earlier own
  unfolding by_processor
  gap_kept h x-is y-is is = rw (ne_eqb kept 0 h, is, x-is, y-is)

-- ---- to the record before

module _ (es : List Entry) (times : List ℤ) (kept latency i j : ℕ) {own earlier : Stamped} (own_is : own ≡ stamped_at es (time_at times) i)
    (earlier-is : earlier ≡ stamped_at es (time_at times) j) {x y : ℤ} (x-is : x ≡ own.corrected) (y-is : y ≡ earlier.corrected) (t : Bool)
    (told : t ≡ eq_z x (y +ℤ pos kept)) where
  test : eq_z (time_at times i) (time_at times j +ℤ pos kept) ≡ t
  unfolding stamped_at
  test = sym (told ∙ rw (x-is, y-is, own_is, earlier-is))

  pub exactly_kept : {cause : Cause} → t ≡ true → cause ≡ by_processor kept earlier own → cause ≡ cause_behind es times kept latency i j
  unfolding cause_behind
  exactly_kept e is = rw (test ∙ e, is, own_is, earlier-is)

  pub not_kept : t ≡ false → Sent latency ≡ cause_behind es times kept latency i j
  unfolding cause_behind
  not_kept e = rw (test ∙ e)

-- ---- to any

module _ (es : List Entry) (times : List ℤ) (before gap latency : List ℕ) (i j : ℕ) {place wait : ℕ} (is : place ≡ get_or before i 0)
    (lasts : wait ≡ get_or latency i 0) where
  pub other_record : (place ≡ j → ⊥) → Sent wait ≡ cause_by es times before gap latency i j
  unfolding cause_by
  other_record h = rw (lasts, ne_eqb (get_or before i 0) j (λ e. h (is ∙ e)))

  pub record_before : {kept : ℕ} {cause : Cause} → place ≡ j → kept ≡ get_or gap i 0 → cause ≡ cause_behind es times kept wait i j
      → cause ≡ cause_by es times before gap latency i j
  unfolding cause_by
  record_before h k e = rw (eq-eqb (get_or before i 0) j (sym is ∙ h), ← k, ← lasts) e

-- ---- by what comes behind

module _ (es : List Entry) (times : List ℤ) (before gap latency : List ℕ) (i : ℕ) where
  pub last_one : (more : List ℕ) → slice_get more 0 ≡ None → Original ≡ cause_of es times before gap latency i more
  unfolding cause_of
  last_one [] e = refl
  last_one (j ∷ more) e = cc

  pub goes_on_lem : (more : List ℕ) {next : ℕ} {cause : Cause} → slice_get more 0 ≡ Some next → cause ≡ cause_by es times before gap latency i next
      → cause ≡ cause_of es times before gap latency i more
  unfolding cause_of
  goes_on_lem [] e h = cc
  goes_on_lem (j ∷ more) {next} e h = let q : j ≡ next = same_Some j next e in rw q h
