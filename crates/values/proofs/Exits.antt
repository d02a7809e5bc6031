-- Where a `?` behind `ok_or` goes: the answer is the field that `ok_or` was given.
use Rattle.std.specs.Prelude.{Option, Result, None, Err, ok_or}
use Rattle.std.specs.Result.{IsErrAnd}
use Rattle.std.proofs.lemmas.Result.{err_from_is_err_and}
use Prim.Native.Nat.{ℕ}
use mathlib.Core.Path.{◌≡◌, ap, ◌∙◌}

pub exit : {T A : Type 0} (r : Result T ℕ) {o : Option A} {field k : ℕ} → IsErrAnd r (λ e. e ≡ k) → o ≡ None
    → ◌≡◌ {A = Result A ℕ} (Err k) (ok_or o field) → r ≡ Err field
exit {A = A} r {field = field} {k = k} a n e =
    let p = err_from_is_err_and r a in
    let q : ◌≡◌ {A = Result A ℕ} (Err k) (Err field) = rw n at e in
    let same : k ≡ field = cc in
    p.1 ∙ ap Err (p.2 ∙ same)
