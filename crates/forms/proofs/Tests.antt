-- Laws of tests, and of what they let pass: a number, where there is one, and a number that is not above a limit.
use Rattle.std.specs.Prelude.{Option, Some, None}
use Prim.Native.Nat.{ℕ, ◌≤◌, ◌<◌}
use mathlib.Core.Path.{◌≡◌, refl, sym}
use mathlib.Core.Bool.{Bool, true, false, cond, ◌&&◌}
use native.Mathlib.Omega.{arith}
use lib.Dec.{leb}
use borrow.Author.Tests.{le-leb, lt-leb, leb-true, leb-false}
use Rattle.paper.specs.Forms.{at_most}
use Rattle.forms.specs.Sizes.{AtMost}

-- a case that the facts at hand rule out: `cc` shows 0 ≡ 1 from them
pub never {ℓ} : {A : Type ℓ} → ◌≡◌ {A = ℕ} 0 1 → A
never e = absurd (omega arith)

pub both : (t u : Bool) → (t && u) ≡ true → (t ≡ true) × (u ≡ true)
both true u e = (refl, e)
both false u e = (cc, cc)

pub passed : (t : Bool) (o : Option ℕ) {n : ℕ} → cond t o None ≡ Some n → (t ≡ true) × (o ≡ Some n)
passed true o e = (refl, e)
passed false o e = (cc, cc)

-- ---- a limit

pub held : {n most : ℕ} → n ≤ most → Some n ≡ at_most most (Some n)
unfolding at_most
held {n} {most} h = rw (le-leb n most h)

pub refused : {n most : ℕ} → most < n → None ≡ at_most most (Some n)
unfolding at_most
refused {n} {most} h = rw (lt-leb n most h)

pub held_is : {m n most : ℕ} → Some m ≡ at_most most (Some n) → (m ≡ n) × (n ≤ most)
unfolding at_most
held_is {m} {n} {most} e =
    let p = passed (leb n most) (Some n) (sym e) in
    (cc, leb-true n most p.0)

pub refused_is : {n most : ℕ} → None ≡ at_most most (Some n) → most < n
unfolding at_most
refused_is {n} {most} e = go (leb n most) refl e
  where
    go : (t : Bool) → leb n most ≡ t → None ≡ cond t (Some n) None → most < n
    go true p e = never (cc)
    go false p e = leb-false n most p

pub within : (most : ℕ) (o : Option ℕ) → AtMost most o → at_most most o ≡ o
unfolding at_most AtMost
within most None h = refl
within most (Some n) h = sym (held (h n refl))

pub beyond : (most : ℕ) (o : Option ℕ) → ((n : ℕ) → o ≡ Some n → most < n) → at_most most o ≡ None
unfolding at_most
beyond most None h = refl
beyond most (Some n) h = sym (refused (h n refl))
