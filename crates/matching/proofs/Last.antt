-- The last of the first i entries that passes a test, for any test: what `last_of` comes to, and back.
use Rattle.std.specs.Prelude.{Option, Some, None}
use Prim.Native.Nat.{ℕ, zero, suc, ◌<◌}
use native.Mathlib.Omega.{arith}
use native.Mathlib.Decide.{dec_lt}
use mathlib.Core.Path.{◌≡◌, refl, sym, ap, ◌∙◌}
use mathlib.Core.Bool.{Bool, true, false, cond, true≢false}
use mathlib.Core.List.{List}
use Rattle.paper.specs.Matching.{entry_at, last_of}
use Rattle.paper.specs.declared.Entry.{Entry}

-- j is the last before i that passes
pub record LastOf (test : Entry → Bool) (es : List Entry) (i j : ℕ) : Type 0 where
  pub before : j < i
  pub passes : test (entry_at es j) ≡ true
  pub none_between : (k : ℕ) → j < k → k < i → test (entry_at es k) ≡ false

-- none before i passes
abbrev pub NoneOf : (Entry → Bool) → List Entry → ℕ → Type 0
NoneOf test es i = (k : ℕ) → k < i → test (entry_at es k) ≡ false

module _ (test : Entry → Bool) (es : List Entry) where
  abbrev Told : ℕ → Option ℕ → Type 0
  Told i None = NoneOf test es i
  Told i (Some j) = LastOf test es i j

  -- what fails at i and below it fails below the next place
  further : (i : ℕ) → test (entry_at es i) ≡ false → (k : ℕ) → k < suc i → Dec (k < i) → (k < i → test (entry_at es k) ≡ false)
      → test (entry_at es k) ≡ false
  further i e k b (yes l) f = f l
  further i e k b (no l) f = let z : k ≡ i = omega arith in rw z e

  told : (i : ℕ) → Told i (last_of test es i)
  unfolding last_of
  told zero = λ k l. absurd (omega arith)
  told (suc i) = go (test (entry_at es i)) refl (last_of test es i) (told i)
    where
      go : (t : Bool) → test (entry_at es i) ≡ t → (o : Option ℕ) → Told i o → Told (suc i) (cond t (Some i) o)
      go true e o f = record { before = omega arith; passes = e; none_between = λ k a b. absurd (omega arith) }
      go false e None f = λ k b. further i e k b (dec_lt k i) (f k)
      go false e (Some j) f =
          record {
            before = omega (arith, f.before);
            passes = f.passes;
            none_between = λ k a b. further i e k b (dec_lt k i) (f.none_between k a);
          }

  pub last_of_lem : (i j : ℕ) → last_of test es i ≡ Some j → LastOf test es i j
  last_of_lem i j h = rw h at (told i)

  pub none_of : (i : ℕ) → last_of test es i ≡ None → NoneOf test es i
  none_of i h = rw h at (told i)

  -- ---- and back: there is one last only

  none_later : (i j k : ℕ) → LastOf test es i j → LastOf test es i k → ¬ (j < k)
  none_later i j k f g l = true≢false (sym g.passes ∙ f.none_between k l g.before)

  one_last : (i j k : ℕ) → LastOf test es i j → LastOf test es i k → j ≡ k
  one_last i j k f g = let a = none_later i j k f g in let b = none_later i k j g f in omega arith

  pub last_back : (i j : ℕ) → LastOf test es i j → last_of test es i ≡ Some j
  last_back i j f = go (last_of test es i) (told i)
    where
      go : (o : Option ℕ) → Told i o → o ≡ Some j
      go None g = absurd (true≢false (sym f.passes ∙ g j f.before))
      go (Some k) g = ap Some (one_last i k j g f)

  pub none_back : (i : ℕ) → NoneOf test es i → last_of test es i ≡ None
  none_back i f = go (last_of test es i) (told i)
    where
      go : (o : Option ℕ) → Told i o → o ≡ None
      go None g = refl
      go (Some k) g = absurd (true≢false (sym g.passes ∙ f k g.before))
