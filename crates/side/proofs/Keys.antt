-- Two keys compared by `==`, and the bucket of a key.
use Rattle.std.specs.Ordering.{int_eq}
use Rattle.std.proofs.lemmas.Bool.Decides.{same_from_decides, Decides-int_eq}
use Prim.Native.Nat.{ℕ, ◌+◌, ◌*◌, ◌%◌, ◌<◌}
use native.Mathlib.Omega.{arith}
use mathlib.Core.Path.{◌≡◌, refl, ap}
use mathlib.Core.Bool.{Bool, true, false, ◌&&◌}
use lib.Dec.{eqb}
use lib.IntN.{ℤ}
use Rattle.paper.specs.Tests.{eq_z}
use Rattle.paper.specs.Matching as Paper
use Rattle.paper.specs.Matching.{same_key}
use Rattle.matching.proofs.Keys.{eq_z_true, eq_z_same}
use Rattle.signed.specs.Codes.{code_of}
use Rattle.side.specs.declared.Key.{Key}
use Rattle.side.specs.Sides.{key_of, bucket_of}

-- `==` of two keys is the paper's test
and_assoc : (a b c : Bool) → (a && (b && c)) ≡ ((a && b) && c)
and_assoc true b c = refl
and_assoc false b c = refl

tags : (a b : ℤ) → int_eq a b ≡ eq_z a b
tags a b = same_from_decides (int_eq a b) (eq_z a b) (Decides-int_eq a b) (eq_z_true a b, λ e. rw e (eq_z_same b))

pub keys_told : (a b : Key) → (eqb a.sender b.sender && (eqb a.receiver b.receiver && int_eq a.tag b.tag)) ≡ same_key (key_of a) (key_of b)
keys_told a b = rw (tags a.tag b.tag) (and_assoc (eqb a.sender b.sender) (eqb a.receiver b.receiver) (eq_z a.tag b.tag))

pub bucket_is : (k : Key) {n : ℕ} {t : ℤ} → n ≡ code_of t → t ≡ k.tag
    → (k.sender % 64 * 64 + k.receiver % 64 + n % 1024 * 37) % 1024 ≡ bucket_of k
unfolding bucket_of
bucket_is k e f = rw (e, f)

-- keys that are the same have one bucket
pub bucket_same : (a b : Key) → key_of a ≡ key_of b → bucket_of a ≡ bucket_of b
unfolding bucket_of
bucket_same a b e =
    let s : a.sender ≡ b.sender = ap (λ (k : Paper.Key). k.sender) e in
    let r : a.receiver ≡ b.receiver = ap (λ (k : Paper.Key). k.receiver) e in
    let t : a.tag ≡ b.tag = ap (λ (k : Paper.Key). k.tag) e in
    rw (s, r, t)

pub bucket_low : (key : Key) → bucket_of key < 1024
unfolding bucket_of
bucket_low key = omega arith
