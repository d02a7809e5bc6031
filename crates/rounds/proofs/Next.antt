-- "Each next round gives every record the largest of its original, its predecessor's time .. and .. its send's time plus latency":
-- next is one of the three, and below none.
use Rattle.std.specs.Prelude.{Option, Some, None}
use Prim.Native.Nat.{ℕ, ◌<◌}
use native.Mathlib.Omega.{arith}
use mathlib.Core.Path.{◌≡◌, refl}
use lib.IntN.{ℤ, pos, ◌+ℤ◌}
use lib.Signed.{◌≤ℤ◌, ≤ℤ_refl}
use Rattle.paper.specs.Clock.{Waits, waited, next}
use Rattle.rounds.specs.Meaning.{Wait, on_before, on_send, Closed}
use Rattle.rounds.proofs.Order.{≤ℤ-trans, ≤ℤ-antisym, later_is, sum_le}

module _ (x : ℕ → ℤ) (v : ℕ) (a : ℤ) where
  waited_is : (P : ℤ → Type 0) (o : Option ℕ) → P a → ((j : ℕ) → o ≡ Some j → P (x j +ℤ pos v)) → P (waited x o v a)
  waited_is P None own wait = own
  waited_is P (Some j) own wait = later_is P a (x j +ℤ pos v) (λ l. own) (λ l. wait j refl)

  waited_own : (o : Option ℕ) → a ≤ℤ waited x o v a
  waited_own None = ≤ℤ_refl a
  waited_own (Some j) = later_is (λ z. a ≤ℤ z) a (x j +ℤ pos v) (λ l. ≤ℤ_refl a) (λ l. l)

  waited_wait : {o : Option ℕ} (j : ℕ) → o ≡ Some j → (x j +ℤ pos v) ≤ℤ waited x o v a
  waited_wait j e = rw e (later_is (λ z. (x j +ℤ pos v) ≤ℤ z) a (x j +ℤ pos v) (λ l. l) (λ l. ≤ℤ_refl (x j +ℤ pos v)))

module _ (w : Waits) (x : ℕ → ℤ) (i : ℕ) where
  pub next_is : (P : ℤ → Type 0) → P (w.original i) → ((j v : ℕ) → Wait w i j v → P (x j +ℤ pos v)) → P (next w x i)
  unfolding next
  next_is P own wait =
      waited_is x (w.latency i) (waited x (w.before i) (w.gap i) (w.original i)) P (w.send i)
      (waited_is x (w.gap i) (w.original i) P (w.before i) own (λ j e. wait j (w.gap i) (on_before e)))
      (λ j e. wait j (w.latency i) (on_send e))

  pub next_own : w.original i ≤ℤ next w x i
  unfolding next
  next_own =
      ≤ℤ-trans (waited_own x (w.gap i) (w.original i) (w.before i))
      (waited_own x (w.latency i) (waited x (w.before i) (w.gap i) (w.original i)) (w.send i))

  pub next_wait : {j v : ℕ} → Wait w i j v → (x j +ℤ pos v) ≤ℤ next w x i
  unfolding next
  next_wait {j} (on_before e) =
      ≤ℤ-trans (waited_wait x (w.gap i) (w.original i) j e)
      (waited_own x (w.latency i) (waited x (w.before i) (w.gap i) (w.original i)) (w.send i))
  next_wait {j} (on_send e) = waited_wait x (w.latency i) (waited x (w.before i) (w.gap i) (w.original i)) j e

module _ (w : Waits) (closed : Closed w) (x y : ℕ → ℤ) where
  -- later times make no record's next time earlier
  pub next_mono : ((j : ℕ) → j < w.size → x j ≤ℤ y j) → (i : ℕ) → i < w.size → next w x i ≤ℤ next w y i
  next_mono up i i< =
      next_is w x i (λ z. z ≤ℤ next w y i) (next_own w y i)
      (λ j v wait. ≤ℤ-trans (sum_le (up j (closed i j v i< wait)) (omega arith)) (next_wait w y i wait))

-- nor does next look past the records
pub next_same : (w : Waits) → Closed w → (x y : ℕ → ℤ) → ((j : ℕ) → j < w.size → x j ≡ y j) → (i : ℕ) → i < w.size → next w x i ≡ next w y i
next_same w closed x y e i i< =
    ≤ℤ-antisym (next_mono w closed x y (λ j l. rw (e j l) (≤ℤ_refl (y j))) i i<)
    (next_mono w closed y x (λ j l. rw (e j l) (≤ℤ_refl (y j))) i i<)
