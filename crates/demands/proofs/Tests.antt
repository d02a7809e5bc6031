-- Tests and the plain facts that they tell: of signed numbers, of texts, and those of 1 to 4.
use Rattle.std.specs.Prelude.{Option, None}
use Prim.Native.Nat.{ℕ}
use native.Mathlib.Omega.{arith}
use mathlib.Core.Path.{◌≡◌, refl}
use mathlib.Core.Bool.{Bool, true, false, cond, ◌&&◌, not}
use mathlib.Core.Logic.{inl, inr}
use mathlib.Core.List.{List}
use lib.ListN.{length}
use lib.IntN.{ℤ}
use lib.Dec.{leb}
use borrow.Author.Tests.{eqb-true, eq-eqb, ne_eqb, leb-true, leb-false, le-leb, lt-leb}
use Rattle.paper.specs.Tests.{eq_z}
use Rattle.paper.specs.Text.{is_same}
use Rattle.paper.specs.Answer.{Given, Inputs, given, most, longest, choice_of, heard, right_sizes, low_latencies}
use Rattle.paper.specs.declared.Asked.{Asked}
use Rattle.paper.specs.declared.Choice.{Choice}
use Rattle.forms.proofs.Tests.{both, never}
use Rattle.forms.proofs.Bounded.{bounded_holds, bounded_told}
use Rattle.forms.proofs.Texts.{same_self, same_means}
use Rattle.matching.proofs.Keys.{eq_z_true, eq_z_same}
use Rattle.demands.specs.Steps.{Unheard, RightSizes, LowLatencies, ShortTrace}

-- a test tells a fact
pub record Tells (b : Bool) (P : Type 0) : Type 0 where
  pub holds : b ≡ true → P
  pub told : P → b ≡ true

pub not_told : {b : Bool} {P : Type 0} → Tells b P → ¬ P → b ≡ false
not_told {b = true} t h = absurd (h (t.holds refl))
not_told {b = false} t h = refl

pub untold : {b : Bool} {P : Type 0} → Tells b P → b ≡ false → ¬ P
untold t e p = let yes_it = t.told p in never (cc)

-- a part of a test, and the other way round
pub both_tell : {b c : Bool} {P Q : Type 0} → Tells b P → Tells c Q → Tells (b && c) (P × Q)
both_tell {b} {c} t u =
    record { holds = λ e. let (f, g) = both b c e in (t.holds f, u.holds g); told = λ (p, q). rw (t.told p, u.told q) }

pub not_tells : {b : Bool} {P : Type 0} → Tells b P → Tells (not b) (¬ P)
not_tells {b = true} t = record { holds = λ e. never (cc); told = λ h. absurd (h (t.holds refl)) }
not_tells {b = false} t = record { holds = λ e. untold t refl; told = λ h. refl }

-- the same fact in other words
pub in_words : {b : Bool} {P Q : Type 0} → (P → Q) → (Q → P) → Tells b P → Tells b Q
in_words to of t = record { holds = λ e. to (t.holds e); told = λ q. t.told (of q) }

pub same_tells : (a b : ℤ) → Tells (eq_z a b) (a ≡ b)
same_tells a b = record { holds = eq_z_true a b; told = λ e. rw e (eq_z_same b) }

pub text_tells : (a b : List ℕ) → Tells (is_same a b) (a ≡ b)
text_tells a b = record { holds = same_means a b; told = λ e. rw e (same_self b) }

pub sizes_tell : (i : Inputs) → Tells (right_sizes (given i)) (RightSizes i)
unfolding right_sizes
sizes_tell i =
    record {
      holds = λ e. let (ab, c) = both _ _ e in let (a, b) = both _ _ ab in (eqb-true _ _ a, eqb-true _ _ b, omega (arith, leb-true i.asked.share 1000 c));
      told = λ (a, b, c). rw (eq-eqb _ _ a, eq-eqb _ _ b, le-leb i.asked.share 1000 (omega (arith, c)));
    }

pub lows_tell : (i : Inputs) → Tells (low_latencies i.latencies) (LowLatencies i)
unfolding low_latencies
lows_tell i = record { holds = λ e k l. bounded_holds 1000000 i.latencies e k; told = bounded_told 1000000 i.latencies }

pub short_tells : (i : Inputs) → Tells (leb (length i.trace) longest) (ShortTrace i)
short_tells i = record { holds = leb-true _ _; told = le-leb _ _ }

-- 1
nothing_either_way : (t : Bool) → ◌≡◌ {A = Option Choice} (cond t None None) None
nothing_either_way true = refl
nothing_either_way false = refl

pub unchosen : (a : Asked) → Unheard a → heard a ≡ None
unfolding heard choice_of
unchosen a (inl (one, two)) = rw (ne_eqb a.choice 1 one, ne_eqb a.choice 2 two) (nothing_either_way (leb a.levels 1 && leb a.statistics 1))
unchosen a (inr (inl (off, on))) = rw (lt-leb a.levels 1 (omega arith))
unchosen a (inr (inr (off, on))) = rw (lt-leb a.statistics 1 (omega arith)) (go (leb a.levels 1))
  where
    go : (t : Bool) → cond (t && false) (choice_of a.choice) None ≡ None
    go true = refl
    go false = refl

pub neither : (a : Asked) → heard a ≡ None → Unheard a
unfolding heard choice_of
neither a e = go (leb a.levels 1) refl (leb a.statistics 1) refl e
  where
    go : (t : Bool) → leb a.levels 1 ≡ t → (u : Bool) → leb a.statistics 1 ≡ u → cond (t && u) (choice_of a.choice) None ≡ None → Unheard a
    go true t true u e = inl (λ p. let h = rw p at e in never (cc), λ p. let h = rw p at e in never (cc))
    go true t false u e = let more = leb-false a.statistics 1 u in inr (inr (λ p. omega arith, λ p. omega arith))
    go false t u w e = let more = leb-false a.levels 1 t in inr (inl (λ p. omega arith, λ p. omega arith))

-- how many records may be listed does not look at the trace or at the table
pub same_most : (g h : Given) → g.places ≡ h.places → most g ≡ most h
unfolding most
same_most g h e = refl
