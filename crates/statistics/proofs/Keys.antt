-- Keys: what is under a key has that key, and is in its bucket.
use Rattle.std.proofs.Common.{◌≡◌, ℕ, ◌<◌, Bool, true, false, eqb, List, refl, ap, arith, eq-eqb, eqb-true}
use borrow.Author.Tests.{eqb-false}
use Rattle.paper.specs.Tests.{eq_z}
use Rattle.paper.specs.Statistics.{is_of}
use Rattle.forms.proofs.Tests.{both}
use Rattle.matching.proofs.Keys.{eq_z_true, eq_z_same}
use Rattle.store.specs.Layout.{entry_from}
use Rattle.statistics.specs.declared.key.Key.{Key}
use Rattle.statistics.specs.Keys.{under, key_at, under_at, bucket_of, in_bucket}

module _ (l : List ℕ) where
  -- it has that key
  pub under_key : (k : Key) (i : ℕ) → under_at l k i ≡ true → key_at l i ≡ k
  unfolding under is_of key_at
  under_key k i h =
      let (two, kind) = both _ (eq_z (entry_from l i).body.kind k.kind) h in
      let (on, event) = both (eqb (entry_from l i).body.processor k.processor) (eq_z (entry_from l i).body.event k.event) two in
      let a : (entry_from l i).body.processor ≡ k.processor = eqb-true _ _ on in
      let b : (entry_from l i).body.event ≡ k.event = eq_z_true _ _ event in
      let c : (entry_from l i).body.kind ≡ k.kind = eq_z_true _ _ kind in
      rw (a, b, c)

  -- and each record is under its own
  pub under_own : (i : ℕ) → under_at l (key_at l i) i ≡ true
  unfolding under is_of key_at
  under_own i =
      let b = (entry_from l i).body in rw (eq-eqb b.processor b.processor refl, eq_z_same b.event, eq_z_same b.kind)

  -- what is not in the bucket of a key is not under it
  pub not_in : (k : Key) (i : ℕ) → in_bucket l (bucket_of k) i ≡ false → under_at l k i ≡ false
  not_in k i h = go (under_at l k i) refl
    where
      go : (t : Bool) → under_at l k i ≡ t → t ≡ false
      go true e = absurd (eqb-false _ _ h (ap bucket_of (under_key k i e)))
      go false e = refl

-- ---- the bucket

pub bucket_low : (k : Key) → bucket_of k < 1024
unfolding bucket_of
bucket_low k = omega arith
