-- Each statement leaves one answer.
use Rattle.std.specs.Prelude.{Option}
use Prim.Native.Nat.{ℕ}
use mathlib.Core.Path.{◌≡◌, sym, ◌∙◌}
use mathlib.Core.Bool.{Bool}
use lib.IntN.{ℤ}
use lib.Signed.{lt_z}
use Rattle.paper.specs.Tests.{eq_z}
use Rattle.signed.specs.Naturals.{size_of, natural_of}
use Rattle.signed.specs.Codes.{code_of, decoded}

pub one_same : (a b : ℤ) (r q : Bool) → r ≡ eq_z a b → q ≡ eq_z a b → r ≡ q
one_same a b r q e f = e ∙ sym f

pub one_earlier : (a b : ℤ) (r q : Bool) → r ≡ lt_z a b → q ≡ lt_z a b → r ≡ q
one_earlier a b r q e f = e ∙ sym f

pub one_size : (z : ℤ) (r q : Option ℕ) → r ≡ size_of z → q ≡ size_of z → r ≡ q
one_size z r q e f = e ∙ sym f

pub one_natural : (most : ℕ) (z : ℤ) (r q : Option ℕ) → r ≡ natural_of most z → q ≡ natural_of most z → r ≡ q
one_natural most z r q e f = e ∙ sym f

pub one_code : (z : ℤ) (r q : ℕ) → r ≡ code_of z → q ≡ code_of z → r ≡ q
one_code z r q e f = e ∙ sym f

pub one_decoded : (n : ℕ) (r q : ℤ) → r ≡ decoded n → q ≡ decoded n → r ≡ q
one_decoded n r q e f = e ∙ sym f
