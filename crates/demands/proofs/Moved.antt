-- The test of the verdict tells whether some time moved.
use Prim.Native.Nat.{◌<◌}
use native.Mathlib.Omega.{arith}
use mathlib.Core.Path.{◌≡◌, refl, sym, ap, ◌∙◌}
use mathlib.Core.Bool.{Bool, true, false, not}
use mathlib.Core.List.{List}
use lib.ListN.{length}
use lib.IntN.{ℤ}
use lib.Signed.{<ℤ_irrefl}
use lib.Dec.{T}
use borrow.Author.Tests.{not-true}
use Rattle.paper.specs.Clock.{time_at, same, settled}
use Rattle.paper.specs.Matching.{waits_of, matched_count}
use Rattle.paper.specs.Answer.{Inputs, originals}
use Rattle.rounds.proofs.Lists.{listed_at, listed_same, listed_times, same_equal, equal_same}
use Rattle.rounds.proofs.Still.{still_iff, moved_iff}
use Rattle.demands.specs.Parts.{time}
use Rattle.demands.specs.Steps.{entries, waits, Accepted, original}
use Rattle.demands.specs.Accepted.{Moved}
use Rattle.demands.proofs.Tests.{Tells, not_told, untold}
use Rattle.demands.proofs.Times.{closed, listed_is, size, time_is}
use Rattle.demands.proofs.Unmatched.{originals_settle}

true_of : (b : Bool) → T b → b ≡ true
true_of true t = refl
true_of false t = absurd t

same_tells : (xs ys : List ℤ) → Tells (same xs ys) (xs ≡ ys)
same_tells xs ys =
    record { holds = λ e. same_equal xs ys (rw e tt); told = λ e. true_of (same xs ys) (rw e (equal_same ys)) }

module _ (i : Inputs) (a : Accepted i) where
  still : a.rounds ≡ 0 → a.times ≡ originals (waits i a.choice)
  unfolding waits_of
  still e =
      sym (listed_times a.times) ∙ rw (size i a)
      (listed_same (length (entries i a.choice)) (time_at a.times) (original (entries i a.choice))
      ((still_iff (waits i a.choice) (closed i a.choice) a.settles).0 e))

  moved : ¬ (a.times ≡ originals (waits i a.choice)) → Moved i a.choice
  unfolding waits_of
  moved other =
      let some : ¬ (a.rounds ≡ 0) = λ e. other (still e) in
      let (k, l, less) = (moved_iff (waits i a.choice) (closed i a.choice) a.settles).0 (omega arith) in
      (k, rw (listed_is i a) l, rw (time_is i a k l) less)

  other_times : Moved i a.choice → ¬ (a.times ≡ originals (waits i a.choice))
  unfolding waits_of
  other_times (k, l, less) equal =
      let es = entries i a.choice in
      let inside : k < length es = rw (← listed_is i a) l in
      let stays : time i k ≡ original es k =
      time_is i a k inside ∙ ap (λ (xs : List ℤ). time_at xs k) equal ∙ listed_at (length es) (original es) k inside in
      <ℤ_irrefl (rw stays at less)

  pub moved_tells : Tells (not (same a.times (originals (waits i a.choice)))) (Moved i a.choice)
  moved_tells =
      let tells = same_tells a.times (originals (waits i a.choice)) in
      record { holds = λ e. moved (untold tells (not-true _ e)); told = λ m. rw (not_told tells (other_times m)) }

  -- nothing matched, nothing moved
  pub unmatched_still : matched_count (entries i a.choice) ≡ 0 → ¬ Moved i a.choice
  unfolding waits_of
  unmatched_still e m =
      let by_originals : settled a.rounds a.times ≡ settled 0 (originals (waits i a.choice)) = sym a.settles ∙ originals_settle i a.choice a.matched e in
      other_times m (cc)
