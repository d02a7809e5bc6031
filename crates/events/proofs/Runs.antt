-- A match on a signed number becomes a tree of tests against its ends, and each way through the tree leaves a run of numbers. A
-- run that lies inside a range of the table, or apart from all of them, has one standing, and a test of its two ends says which.
-- The table's single numbers are keys of the match: on every other way the event is known to be none of them.
use Rattle.std.specs.Prelude.{Option, Some, None}
use Prim.Native.Nat.{ℕ, zero, suc, ◌-◌, ◌≤◌, ◌^◌}
use mathlib.Core.Path.{◌≡◌, refl, ap, sym, ◌∙◌}
use mathlib.Core.List.{List, [], ◌∷◌}
use mathlib.Core.Bool.{Bool, true, false, cond, ◌&&◌, ◌||◌}
use Rattle.std.proofs.lemmas.Option.{same_Some}
use mathlib.Core.Logic.{◌⊎◌, inl, inr}
use native.Mathlib.Omega.{arith}
use lib.Dec.{leb, ltb, eqb}
use lib.IntN.{ℤ, pos, negsuc, neg_ℤ}
use lib.Signed.{lt_z}
use mir.Syntax.{w64}
use mir.Val.{SFits, to_z, of_z}
use mir.Facts.{to_z-of_z}
use borrow.Author.Tests.{le-leb, lt-leb, leb-true, ltb-true, ltb-false, eqb-true}
use Rattle.paper.specs.Events.{in_ranges, messages, not_handled, listed_events, negative, standing_of}
use Rattle.paper.specs.declared.Standing.{Standing}
use Rattle.paper.specs.declared.Standing.TheVariants.{Listed, Message, NotHandled, Unlisted}

-- a case that the facts at hand rule out: `cc` shows 0 ≡ 1 from them
never {ℓ} : {A : Type ℓ} → ◌≡◌ {A = ℕ} 0 1 → A
never e = absurd (omega arith)

-- ---- a run against a list of ranges

-- whether the numbers from lo to hi are in the ranges, where that is one answer for all of them; single numbers are left out
abbrev pub over : List (ℕ × ℕ) → ℕ → ℕ → Option Bool
over [] lo hi = Some false
over (r ∷ rs) lo hi =
    cond (eqb r.0 r.1) (over rs lo hi)
    (cond (ltb hi r.0) (over rs lo hi) (cond (ltb r.1 lo) (over rs lo hi) (cond (leb r.0 lo && leb hi r.1) (Some true) None)))

-- n is none of the single numbers
abbrev other : Bool → ℕ → ℕ → Type 0
other true k n = n ≡ k → ⊥
other false k n = Unit

abbrev Apart : List (ℕ × ℕ) → ℕ → Type 0
Apart [] n = Unit
Apart (r ∷ rs) n = other (eqb r.0 r.1) r.0 n × Apart rs n

both : (t u : Bool) → (t && u) ≡ true → (t ≡ true) × (u ≡ true)
both true u e = (refl, e)
both false u e = (cc, cc)

outside : (a b n : ℕ) (t : Bool) → (a ≤ n → n ≤ b → ⊥) → (leb a n && leb n b || t) ≡ t
outside a b n t h = go (leb a n) (leb n b) refl refl
  where
    go : (x y : Bool) → leb a n ≡ x → leb n b ≡ y → (x && y || t) ≡ t
    go true true p q = absurd (h (leb-true a n p) (leb-true n b q))
    go true false p q = refl
    go false y p q = refl

module _ (lo hi n : ℕ) (l : lo ≤ n) (h : n ≤ hi) where
  -- one range from a to b, o and i being the answers of the others
  one_range : (a b : ℕ) (o : Option Bool) (i : Bool) {t : Bool} → other (eqb a b) a n → (o ≡ Some t → i ≡ t)
      → cond (eqb a b) o (cond (ltb hi a) o (cond (ltb b lo) o (cond (leb a lo && leb hi b) (Some true) None))) ≡ Some t
      → (leb a n && leb n b || i) ≡ t
  one_range a b o i {t} k f e = go (eqb a b) (ltb hi a) (ltb b lo) (leb a lo && leb hi b) refl refl refl refl k e
    where
      go : (x y z w : Bool) → eqb a b ≡ x → ltb hi a ≡ y → ltb b lo ≡ z → (leb a lo && leb hi b) ≡ w → other x a n
          → cond x o (cond y o (cond z o (cond w (Some true) None))) ≡ Some t → (leb a n && leb n b || i) ≡ t
      go true y z w p q r u k e = outside a b n i (λ c d. k (omega (arith, eqb-true a b p))) ∙ f e
      go false true z w p q r u k e = outside a b n i (λ c d. omega (arith, ltb-true hi a q)) ∙ f e
      go false false true w p q r u k e = outside a b n i (λ c d. omega (arith, ltb-true b lo r)) ∙ f e
      go false false false true p q r u k e =
          let v = both (leb a lo) (leb hi b) u in
          rw (le-leb a n (omega (arith, leb-true a lo v.0)), le-leb n b (omega (arith, leb-true hi b v.1))) (same_Some true t e)
      go false false false false p q r u k e = never (cc)

  over_is : (rs : List (ℕ × ℕ)) {t : Bool} → Apart rs n → over rs lo hi ≡ Some t → in_ranges rs n ≡ t
  unfolding in_ranges
  over_is [] a e = same_Some false _ e
  over_is (r ∷ rs) a e = one_range r.0 r.1 (over rs lo hi) (in_ranges rs n) a.0 (over_is rs a.1) e

-- ---- a run against the table

abbrev pub pick : Option Bool → Option Standing → Option Standing → Option Standing
pick None a b = None
pick (Some true) a b = a
pick (Some false) a b = b

-- the standing of the negatives from -hi to -lo, where they have one
abbrev pub standing_in : ℕ → ℕ → Option Standing
standing_in lo hi =
    pick (over messages lo hi) (Some Message) (pick (over not_handled lo hi) (Some NotHandled) (pick (over listed_events lo hi) (Some Listed) (Some Unlisted)))

picked : {s : Standing} (o : Option Bool) (a : Standing) (b : Option Standing) → pick o (Some a) b ≡ Some s
    → (i : Bool) → ((t : Bool) → o ≡ Some t → i ≡ t) → (j : Standing) → (b ≡ Some s → s ≡ j) → s ≡ cond i a j
picked None a b e i f j g = never (cc)
picked (Some true) a b e i f j g = rw (f true refl) (sym (same_Some a _ e))
picked (Some false) a b e i f j g = rw (f false refl) (g e)

-- ---- an event that is no key of the match

abbrev pub NoKey : ℤ → Type 0
NoKey e = (Unit {0} × (of_z w64 e ≡ of_z w64 (negsuc 20) → ⊥)) × ((of_z w64 e ≡ of_z w64 (negsuc 250)) ⊎ (of_z w64 e ≡ of_z w64 (negsuc 220)) → ⊥)

module _ (n : ℕ) (k : NoKey (negsuc n)) where
  not_21 : suc n ≡ 21 → ⊥
  not_21 p = let q : n ≡ 20 = omega arith in k.0.1 (ap (λ (j : ℕ). of_z w64 (negsuc j)) q)

  not_221 : suc n ≡ 221 → ⊥
  not_221 p = let q : n ≡ 220 = omega arith in k.1 (inr (ap (λ (j : ℕ). of_z w64 (negsuc j)) q))

  not_251 : suc n ≡ 251 → ⊥
  not_251 p = let q : n ≡ 250 = omega arith in k.1 (inl (ap (λ (j : ℕ). of_z w64 (negsuc j)) q))

  stands : {s : Standing} (lo hi : ℕ) → lo ≤ suc n → suc n ≤ hi → standing_in lo hi ≡ Some s → s ≡ negative (suc n)
  unfolding negative
  stands {s} lo hi l h e =
      picked (over messages lo hi) Message _ e (in_ranges messages (suc n)) (λ t. over_is lo hi (suc n) l h messages (not_21, (tt, (tt, (tt, tt))))) _
      (λ e. picked (over not_handled lo hi) NotHandled _ e (in_ranges not_handled (suc n)) (λ t. over_is lo hi (suc n) l h not_handled (tt, (tt, (tt, (tt, tt))))) _
      (λ e. picked (over listed_events lo hi) Listed (Some Unlisted) e (in_ranges listed_events (suc n)) (λ t. over_is lo hi (suc n) l h listed_events (tt, (tt, (not_221, (not_251, (tt, (tt, (tt, (tt, (tt, tt)))))))))) Unlisted (λ e. sym (same_Some Unlisted s e))))

-- ---- the ways of the code, for an event e read back from its bits

at_least : (n k : ℕ) → lt_z (negsuc n) (neg_ℤ (pos k)) ≡ true → k ≤ n
at_least n zero p = omega arith
at_least n (suc k) p = omega (arith, ltb-true k n p)

at_most_lem : (n k : ℕ) → lt_z (negsuc n) (neg_ℤ (pos k)) ≡ false → suc n ≤ k
at_most_lem n zero p = never (cc)
at_most_lem n (suc k) p = omega (arith, ltb-false k n p)

negative_only : (n k : ℕ) → lt_z (pos n) (neg_ℤ (pos k)) ≡ true → ⊥
negative_only n zero p = omega (arith, ltb-true n 0 p)
negative_only n (suc k) p = never (cc)

module _ {e : ℤ} (f : SFits w64 e) where
  -- from -hi to -lo
  pub run : {s : Standing} (lo hi : ℕ) → NoKey e → standing_in lo hi ≡ Some s
      → lt_z (to_z w64 (of_z w64 e)) (neg_ℤ (pos hi)) ≡ false → lt_z (to_z w64 (of_z w64 e)) (neg_ℤ (pos (lo - 1))) ≡ true → s ≡ standing_of e
  unfolding standing_of
  run {s} lo hi k t p q = go e k (rw (to_z-of_z f) at p) (rw (to_z-of_z f) at q)
    where
      go : (e : ℤ) → NoKey e → lt_z e (neg_ℤ (pos hi)) ≡ false → lt_z e (neg_ℤ (pos (lo - 1))) ≡ true → s ≡ standing_of e
      go (pos n) k p q = absurd (negative_only n (lo - 1) q)
      go (negsuc n) k p q = stands n k lo hi (omega (arith, at_least n (lo - 1) q)) (at_most_lem n hi p) t

  -- from -lo down
  pub down : {s : Standing} (lo : ℕ) → NoKey e → standing_in lo (2 ^ 63) ≡ Some s → lt_z (to_z w64 (of_z w64 e)) (neg_ℤ (pos (lo - 1))) ≡ true → s ≡ standing_of e
  unfolding standing_of
  down {s} lo k t q = go e f k (rw (to_z-of_z f) at q)
    where
      go : (e : ℤ) → SFits w64 e → NoKey e → lt_z e (neg_ℤ (pos (lo - 1))) ≡ true → s ≡ standing_of e
      go (pos n) f k q = absurd (negative_only n (lo - 1) q)
      go (negsuc n) f k q = stands n k lo (2 ^ 63) (omega (arith, at_least n (lo - 1) q)) (omega (arith, f.sfits)) t

  -- "0 to 999,999,999", and above
  pub user : lt_z (to_z w64 (of_z w64 e)) (pos 0) ≡ false → lt_z (to_z w64 (of_z w64 e)) (pos 1000000000) ≡ true → Listed ≡ standing_of e
  unfolding standing_of
  user p q = go e (rw (to_z-of_z f) at p) (rw (to_z-of_z f) at q)
    where
      go : (e : ℤ) → lt_z e (pos 0) ≡ false → lt_z e (pos 1000000000) ≡ true → Listed ≡ standing_of e
      go (pos n) p q = rw (le-leb n 999999999 (omega (arith, ltb-true n 1000000000 q)))
      go (negsuc n) p q = never (cc)

  pub above : lt_z (to_z w64 (of_z w64 e)) (pos 1000000000) ≡ false → Unlisted ≡ standing_of e
  unfolding standing_of
  above p = go e (rw (to_z-of_z f) at p)
    where
      go : (e : ℤ) → lt_z e (pos 1000000000) ≡ false → Unlisted ≡ standing_of e
      go (pos n) p = rw (lt-leb n 999999999 (omega (arith, ltb-false n 1000000000 p)))
      go (negsuc n) p = never (cc)

  -- a key of the match
  pub key : {s : Standing} (k : ℤ) → s ≡ standing_of k → to_z w64 (of_z w64 k) ≡ k → of_z w64 e ≡ of_z w64 k → s ≡ standing_of e
  key k h b q = h ∙ ap standing_of (sym b ∙ sym (ap (to_z w64) q) ∙ to_z-of_z f)
