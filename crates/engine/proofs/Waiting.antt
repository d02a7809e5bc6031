-- Places of records in slices, and the waits that they make.
use Rattle.std.specs.Prelude.{Some, None}
use Prim.Native.Nat.{ℕ, suc, ◌-◌, ◌^◌, ◌≤◌, ◌<◌}
use native.Mathlib.Omega.{arith}
use mathlib.Core.Path.{◌≡◌}
use mathlib.Core.List.{List}
use lib.IntN.{ℤ, pos, negsuc, ◌+ℤ◌}
use lib.Signed.{mag, ◌≤ℤ◌}
use lib.Dec.{ltb, leb→le, ltb→lt}
use borrow.Author.Tests.{lt-ltb, le-ltb}
use Rattle.paper.specs.Clock.{limit}
use Rattle.rounds.specs.Meaning.{on_before, on_send, Closed}
use Rattle.rounds.proofs.Order.{test}
use Rattle.engine.specs.Promise.{place, waits_of, widest}

pub place_at : {j n : ℕ} → j < n → place n j ≡ Some j
place_at {j} {n} l = rw (lt-ltb j n l)

pub place_none : {j n : ℕ} → n ≤ j → place n j ≡ None
place_none {j} {n} l = rw (le-ltb j n l)

place_in : (n i j : ℕ) → place n i ≡ Some j → j < n
place_in n i j =
    test (λ o. o ≡ Some j → j < n) (ltb i n) (Some i) None
    (λ h e. let s : i ≡ j = cc in omega (arith, ltb→lt i n h))
    (λ h e. let z : ◌≡◌ {A = ℕ} 0 1 = cc in omega arith)

-- the slices' waits stay among the records
pub closed : (originals : List ℤ) (before gap send latency : List ℕ) → Closed (waits_of originals before gap send latency)
unfolding waits_of
closed originals before gap send latency i j v i< (on_before e) = place_in _ _ j e
closed originals before gap send latency i j v i< (on_send e) = place_in _ _ j e

-- a time within the limit and any gap or latency fit a signed 64-bit sum
pub sum_fits : (z : ℤ) (v : ℕ) → mag z < 2 ^ 63 → z ≤ℤ limit → v ≤ widest → mag (z +ℤ pos v) < 2 ^ 63
sum_fits (pos n) v f h l = omega (arith, leb→le n 999999999999999 h.le)
sum_fits (negsuc n) v f h l =
    test (λ z. mag z < 2 ^ 63) (ltb v (suc n)) (negsuc (suc n - suc v)) (pos (v - suc n)) (λ b. omega arith) (λ b. omega arith)
