-- The record types of statistics are at most -101.
use Prim.Native.Nat.{◌<◌}
use native.Mathlib.Omega.{arith}
use mathlib.Core.Path.{◌≡◌, refl, sym}
use mathlib.Core.Bool.{false}
use lib.IntN.{ℤ, pos, negsuc}
use lib.Signed.{le_z}
use borrow.Author.Tests.{leb-false, ne_eqb}
use Rattle.paper.specs.Tests.{minus, one_of}
use Rattle.paper.specs.Events.{is_statistics}

above_none : (k : ℤ) → le_z k (minus 101) ≡ false → is_statistics k ≡ false
unfolding is_statistics one_of
above_none (pos n) h = refl
above_none (negsuc n) h =
    let below : n < 100 = leb-false 100 n h in
    rw (ne_eqb n 100 (λ e. omega arith), ne_eqb n 101 (λ e. omega arith), ne_eqb n 102 (λ e. omega arith))

pub above : {k u : ℤ} → u ≡ k → le_z u (minus 101) ≡ false → false ≡ is_statistics k
above {k} same h = sym (above_none k (rw same at h))
