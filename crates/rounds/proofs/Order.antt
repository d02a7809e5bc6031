-- The order of signed times, and how far one is below another. Heights over a low enough floor are natural numbers, so that
-- omega works on them.
use Prim.Native.Nat.{ℕ, suc, ◌+◌, ◌-◌, ◌≤◌, ◌<◌}
use native.Mathlib.Omega.{arith}
use mathlib.Core.Path.{◌≡◌, ap}
use mathlib.Core.Bool.{Bool, true, false, cond}
use lib.IntN.{ℤ, pos, negsuc, ◌+ℤ◌}
use lib.Signed.{lt_z, ◌≤ℤ◌, ◌<ℤ◌, le_z_yes, lt_z_yes, lt_z_no}
use lib.Dec.{T, ltb, leb→le, le→leb, ltb→lt, lt→ltb, not_T}
use Rattle.paper.specs.Gaps.{apart}
use Rattle.paper.specs.Clock.{later}

-- the two cases of a test
pub test : {A : Type 0} (P : A → Type 0) (b : Bool) (x y : A) → (T b → P x) → ((T b → ⊥) → P y) → P (cond b x y)
test P true x y h g = h tt
test P false x y h g = g (λ a. a)

-- how far z is below zero, and how high it is above -floor
abbrev depth : ℤ → ℕ
depth (pos n) = 0
depth (negsuc n) = suc n

abbrev height : ℕ → ℤ → ℕ
height floor (pos n) = floor + n
height floor (negsuc n) = floor - suc n

height_le : (floor : ℕ) {a b : ℤ} → a ≤ℤ b → height floor a ≤ height floor b
height_le floor {a = pos m} {b = pos n} h = omega (arith, leb→le m n h.le)
height_le floor {a = pos m} {b = negsuc n} h = absurd h.le
height_le floor {a = negsuc m} {b = pos n} h = omega arith
height_le floor {a = negsuc m} {b = negsuc n} h = omega (arith, leb→le n m h.le)

le_height : (floor : ℕ) (a b : ℤ) → depth b ≤ floor → height floor a ≤ height floor b → a ≤ℤ b
le_height floor (pos m) (pos n) d h = le_z_yes (le→leb m n (omega arith))
le_height floor (pos m) (negsuc n) d h = absurd (omega arith)
le_height floor (negsuc m) (pos n) d h = le_z_yes tt
le_height floor (negsuc m) (negsuc n) d h = le_z_yes (le→leb n m (omega arith))

height_add : (floor : ℕ) (a : ℤ) (v : ℕ) → depth a ≤ floor → height floor (a +ℤ pos v) ≡ height floor a + v
height_add floor (pos m) v d = omega arith
height_add floor (negsuc m) v d =
    test (λ z. height floor z ≡ floor - suc m + v) (ltb v (suc m)) (negsuc (suc m - suc v)) (pos (v - suc m))
    (λ h. omega (arith, ltb→lt v (suc m) h))
    (λ h. let g : ¬ (v < suc m) = λ l. h (lt→ltb v (suc m) l) in omega arith)

depth_add : (a : ℤ) (v : ℕ) → depth (a +ℤ pos v) ≤ depth a
depth_add (pos m) v = omega arith
depth_add (negsuc m) v =
    test (λ z. depth z ≤ suc m) (ltb v (suc m)) (negsuc (suc m - suc v)) (pos (v - suc m)) (λ h. omega arith) (λ h. omega arith)

pub plus_none : (z : ℤ) → z +ℤ pos 0 ≡ z
plus_none (pos n) = ap pos (omega arith)
plus_none (negsuc n) = test (λ z. z ≡ negsuc n) (ltb 0 (suc n)) (negsuc (suc n - 1)) (pos (0 - suc n)) (λ h. ap negsuc (omega arith))
    (λ h. absurd (h (lt→ltb 0 (suc n) (omega arith))))

-- ---- the order

pub ≤ℤ-trans : {a b c : ℤ} → a ≤ℤ b → b ≤ℤ c → a ≤ℤ c
≤ℤ-trans {a} {b} {c} h k =
    let floor = depth c in le_height floor a c (omega arith) (omega (arith, height_le floor h, height_le floor k))

pub ≤ℤ-antisym : {a b : ℤ} → a ≤ℤ b → b ≤ℤ a → a ≡ b
≤ℤ-antisym {a = pos m} {b = pos n} h k = ap pos (omega (arith, leb→le m n h.le, leb→le n m k.le))
≤ℤ-antisym {a = pos m} {b = negsuc n} h k = absurd h.le
≤ℤ-antisym {a = negsuc m} {b = pos n} h k = absurd k.le
≤ℤ-antisym {a = negsuc m} {b = negsuc n} h k = ap negsuc (omega (arith, leb→le n m h.le, leb→le m n k.le))

pub <ℤ-le : {a b : ℤ} → a <ℤ b → a ≤ℤ b
<ℤ-le {a = pos m} {b = pos n} h = le_z_yes (le→leb m n (omega (arith, ltb→lt m n h.lt)))
<ℤ-le {a = pos m} {b = negsuc n} h = absurd h.lt
<ℤ-le {a = negsuc m} {b = pos n} h = le_z_yes tt
<ℤ-le {a = negsuc m} {b = negsuc n} h = le_z_yes (le→leb n m (omega (arith, ltb→lt n m h.lt)))

pub sum_le : {a b : ℤ} {v u : ℕ} → a ≤ℤ b → v ≤ u → (a +ℤ pos v) ≤ℤ (b +ℤ pos u)
sum_le {a} {b} {v} {u} h k =
    let floor = depth a + depth b in
    le_height floor (a +ℤ pos v) (b +ℤ pos u) (omega (arith, depth_add b u))
    (omega (arith, height_le floor h, height_add floor a v (omega arith), height_add floor b u (omega arith)))

-- a wait makes nothing earlier
pub sum_up : (a : ℤ) (v : ℕ) → a ≤ℤ (a +ℤ pos v)
sum_up a v = let floor = depth a in le_height floor a (a +ℤ pos v) (depth_add a v) (omega (arith, height_add floor a v (omega arith)))

pub sum_back : (a b : ℤ) (v : ℕ) → (a +ℤ pos v) ≤ℤ (b +ℤ pos v) → a ≤ℤ b
sum_back a b v h =
    let floor = depth a + depth b in
    le_height floor a b (omega arith) (omega (arith, height_le floor h, height_add floor a v (omega arith), height_add floor b v (omega arith)))

-- one wait behind the other
pub sum_sum : (a b c : ℤ) (u v : ℕ) → (a +ℤ pos u) ≤ℤ b → (b +ℤ pos v) ≤ℤ c → (a +ℤ pos (u + v)) ≤ℤ c
sum_sum a b c u v h k =
    let floor = depth a + depth b + depth c in
    le_height floor (a +ℤ pos (u + v)) c (omega arith)
    (omega (
      arith,
      height_le floor h,
      height_le floor k,
      height_add floor a u (omega arith),
      height_add floor b v (omega arith),
      height_add floor a (u + v) (omega arith),
    ))

-- either order
pub compare : {X : Type 0} (a b : ℤ) → (a <ℤ b → X) → (b ≤ℤ a → X) → X
compare {X} a b less more = test (λ (u : Unit {0}). X) (lt_z a b) tt tt (λ h. less (lt_z_yes h)) (λ h. more (lt_z_no (not_T (lt_z a b) h)))

-- the later of two times is one of them, and below neither
pub later_is : (P : ℤ → Type 0) (a b : ℤ) → (b ≤ℤ a → P a) → (a ≤ℤ b → P b) → P (later a b)
later_is P a b first second =
    test P (lt_z a b) b a (λ h. second (<ℤ-le (lt_z_yes h))) (λ h. first (lt_z_no (not_T (lt_z a b) h)))

-- ---- how far a is below b, 0 where it is not: `apart`

apart_height : (floor : ℕ) (a b : ℤ) → depth a ≤ floor → depth b ≤ floor → apart a b ≡ height floor b - height floor a
apart_height floor (pos m) (pos n) d e = omega arith
apart_height floor (pos m) (negsuc n) d e = omega arith
apart_height floor (negsuc m) (pos n) d e = omega arith
apart_height floor (negsuc m) (negsuc n) d e = omega arith

-- a later time is no further below
pub apart_le : {a b : ℤ} (c : ℤ) → a ≤ℤ b → apart b c ≤ apart a c
apart_le {a} {b} c h =
    let floor = depth a + depth b + depth c in
    omega (arith, height_le floor h, apart_height floor a c (omega arith) (omega arith), apart_height floor b c (omega arith) (omega arith))

-- and one no further below is no earlier
pub apart_back : {a b c : ℤ} → a ≤ℤ c → b ≤ℤ c → apart a c ≤ apart b c → b ≤ℤ a
apart_back {a} {b} {c} h k l =
    let floor = depth a + depth b + depth c in
    le_height floor b a (omega arith)
    (omega (
      arith,
      height_le floor h,
      height_le floor k,
      apart_height floor a c (omega arith) (omega arith),
      apart_height floor b c (omega arith) (omega arith),
    ))

-- where b plus the weight is at most c, a is at most as far below b as a plus the weight is below c
pub apart_wait : (a b : ℤ) {c : ℤ} (v : ℕ) → (b +ℤ pos v) ≤ℤ c → apart a b ≤ apart (a +ℤ pos v) c
apart_wait a b {c} v h =
    let floor = depth a + depth b + depth c in
    omega (
      arith,
      height_le floor h,
      height_add floor a v (omega arith),
      height_add floor b v (omega arith),
      depth_add a v,
      apart_height floor a b (omega arith) (omega arith),
      apart_height floor (a +ℤ pos v) c (omega (arith, depth_add a v)) (omega arith),
    )

-- a time and how far it is below a later one give that one
pub apart_sum : {a b : ℤ} → a ≤ℤ b → a +ℤ pos (apart a b) ≡ b
apart_sum {a} {b} h =
    let floor = depth a + depth b in
    let same : height floor (a +ℤ pos (apart a b)) ≡ height floor b =
    omega (arith, height_le floor h, height_add floor a (apart a b) (omega arith), apart_height floor a b (omega arith) (omega arith)) in
    ≤ℤ-antisym (le_height floor (a +ℤ pos (apart a b)) b (omega arith) (omega (arith, same)))
    (le_height floor b (a +ℤ pos (apart a b)) (omega (arith, depth_add a (apart a b))) (omega (arith, same)))

-- over a time between them
pub apart_add : {a b c : ℤ} → a ≤ℤ b → b ≤ℤ c → apart a b + apart b c ≡ apart a c
apart_add {a} {b} {c} h k =
    let floor = depth a + depth b + depth c in
    omega (
      arith,
      height_le floor h,
      height_le floor k,
      apart_height floor a b (omega arith) (omega arith),
      apart_height floor b c (omega arith) (omega arith),
      apart_height floor a c (omega arith) (omega arith),
    )
