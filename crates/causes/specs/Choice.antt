-- "Give one with the fewest steps, and among those, at the first step where two differ, the processor's step before the send's."
use Rattle.std.specs.Prelude.{ℕ, ◌+◌, ◌≤◌, ◌<◌, ◌≡◌, ◌⊎◌, ◌↔◌, List, [], ◌∷◌, length, ℤ, pos, ◌+ℤ◌, Some}
use Rattle.paper.specs.Clock.{Waits}
use Rattle.rounds.specs.Meaning.{Wait}
use Rattle.causes.specs.Back.{Explains, Once, at}

-- at the first step where the two differ, the first one goes to the record before on the processor
pub data Sooner (w : Waits) : List ℕ → List ℕ → Type 0 where
  now : {i j k : ℕ} {c d : List ℕ} → w.before i ≡ Some j → ¬ (j ≡ k) → Sooner w (i ∷ j ∷ c) (i ∷ k ∷ d)
  later : {i : ℕ} {c d : List ℕ} → Sooner w c d → Sooner w (i ∷ c) (i ∷ d)

-- the chain that is asked for
pub record Chosen (w : Waits) (x : ℕ → ℤ) (i : ℕ) (c : List ℕ) : Type 0 where
  pub explains : Explains w x i c
  pub fewest : (d : List ℕ) → Explains w x i d → length c ≤ length d
  pub sooner : (d : List ℕ) → Explains w x i d → length d ≡ length c → (d ≡ c) ⊎ Sooner w c d

-- what else is said of it
pub record Chain (w : Waits) (x : ℕ → ℤ) (i : ℕ) (c : List ℕ) : Type 0 where
  pub chosen : Chosen w x i c
  -- all of these together leave one chain
  pub only : (d : List ℕ) → Chosen w x i d → d ≡ c
  -- "no record occurs twice", so that it has at most as many records as there are
  pub once : Once c
  pub short : length c ≤ w.size
  pub inside : (a : ℕ) → a < length c → at c a < w.size
  -- "an unmoved record is alone in its chain", and no other is
  pub alone : (x i ≡ w.original i) ↔ (c ≡ i ∷ [])
  pub moved : (a : ℕ) → a + 1 < length c → ¬ (x (at c a) ≡ w.original (at c a))
  -- each wait of it is kept exactly
  pub tight : (a : ℕ) → a + 1 < length c → (v : ℕ) × Wait w (at c a) (at c (a + 1)) v × (x (at c a) ≡ x (at c (a + 1)) +ℤ pos v)
