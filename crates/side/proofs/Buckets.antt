-- What is under a key is in its bucket, and what is not in the bucket is not under the key.
use Prim.Native.Nat.{ℕ}
use mathlib.Core.Path.{◌≡◌, refl, sym, ◌∙◌}
use mathlib.Core.Bool.{Bool, true, false}
use mathlib.Core.List.{List}
use borrow.Author.Tests.{eqb-false, eq-eqb}
use lib.Dec.{eqb}
use Rattle.paper.specs.Matching.{same_key}
use Rattle.matching.proofs.Keys.{same_key_lem}
use Rattle.side.specs.declared.Key.{Key}
use Rattle.side.specs.declared.Side.{Side}
use Rattle.side.specs.declared.Side.TheVariants.{Neither, Sends, Receives}
use Rattle.side.specs.Sides.{key_of, side_at, bucket_of, sends_in, receives_in, send_under, receive_under}
use Rattle.side.proofs.Keys.{bucket_same}
use Rattle.side.proofs.Sides.{sends_by, receives_by, send_by, receive_by}

other_key : (a b : Key) → eqb (bucket_of b) (bucket_of a) ≡ false → (t : Bool) → same_key (key_of a) (key_of b) ≡ t → t ≡ false
other_key a b h true e = absurd (eqb-false (bucket_of b) (bucket_of a) h (sym (bucket_same a b (same_key_lem (key_of a) (key_of b) e))))
other_key a b h false e = refl

sends_hidden : (key : Key) (side : Side) → sends_in (bucket_of key) side ≡ false → sends_by (key_of key) side ≡ false
sends_hidden key Neither h = refl
sends_hidden key (Sends k) h = other_key key k h (same_key (key_of key) (key_of k)) refl
sends_hidden key (Receives k) h = refl

receives_hidden : (key : Key) (side : Side) → receives_in (bucket_of key) side ≡ false → receives_by (key_of key) side ≡ false
receives_hidden key Neither h = refl
receives_hidden key (Sends k) h = refl
receives_hidden key (Receives k) h = other_key key k h (same_key (key_of key) (key_of k)) refl

-- what is not in the bucket of a key is not under the key
module _ (l : List ℕ) (key : Key) (i : ℕ) where
  pub no_send_in : sends_in (bucket_of key) (side_at l i) ≡ false → send_under l key i ≡ false
  no_send_in h = sym (send_by l key i {side = side_at l i} refl refl) ∙ sends_hidden key (side_at l i) h

  pub no_receive_in : receives_in (bucket_of key) (side_at l i) ≡ false → receive_under l key i ≡ false
  no_receive_in h = sym (receive_by l key i {side = side_at l i} refl refl) ∙ receives_hidden key (side_at l i) h

-- what is under a key is in its bucket
sends_shown : (key : Key) (side : Side) → sends_by (key_of key) side ≡ true → sends_in (bucket_of key) side ≡ true
sends_shown key Neither h = h
sends_shown key (Sends k) h = eq-eqb _ _ (sym (bucket_same key k (same_key_lem (key_of key) (key_of k) h)))
sends_shown key (Receives k) h = h

pub send_in_lem : (l : List ℕ) (key : Key) (i : ℕ) → send_under l key i ≡ true → sends_in (bucket_of key) (side_at l i) ≡ true
send_in_lem l key i h = sends_shown key (side_at l i) (send_by l key i {side = side_at l i} refl refl ∙ h)
