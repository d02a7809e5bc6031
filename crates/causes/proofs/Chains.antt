-- What is said of the chain: it is the one that is asked for, there is no other, and no record occurs in it twice.
use Rattle.std.specs.Prelude.{Option, unwrap_or}
use Prim.Native.Nat.{ℕ, ◌+◌, ◌≤◌, ◌<◌}
use native.Mathlib.Omega.{arith}
use mathlib.Core.Path.{ap, ◌≡◌, refl, sym, ◌∙◌}
use mathlib.Core.Logic.{◌⊎◌, inl, inr}
use mathlib.Core.List.{List, [], ◌∷◌}
use lib.ListN.{length, length-drop}
use lib.IntN.{ℤ}
use Rattle.paper.specs.Clock.{Waits, Sound, round}
use Rattle.paper.specs.Chain.{chain_of}
use Rattle.rounds.specs.Meaning.{Closed}
use Rattle.rounds.proofs.Chain.{last_moved, moved_chain}
use Rattle.causes.specs.Back.{Once, at}
use Rattle.causes.specs.Choice.{Sooner, now, later, Chosen, Chain}
use Rattle.causes.proofs.Held.{Held, still, held_explains, explains_held, moved_held}
use Rattle.causes.proofs.Along.{held_one, held_alone, held_inside, held_tight, held_from, held_cut}
use Rattle.causes.proofs.Best.{Foremost, Best, all_long, foremost}
use Rattle.causes.proofs.Finds.{finds}

-- ---- all of these together leave one chain

sooner_begins : {w : Waits} {c d : List ℕ} → Sooner w c d → at c 0 ≡ at d 0
sooner_begins (now e other) = refl
sooner_begins (later s) = refl

-- between lists that are equal two and two
sooner_twice : {w : Waits} {c d e f : List ℕ} → Sooner w c d → Sooner w e f → c ≡ f → d ≡ e → ⊥
sooner_twice (now a other) (now b another) p q = other (cc)
sooner_twice (now {j = j} {k = k} {c = c} {d = d} a other) (later {c = e} {d = f} t) p q =
    let u : f ≡ j ∷ c = cc in
    let v : e ≡ k ∷ d = cc in
    other (sym (ap (λ (l : List ℕ). at l 0) u) ∙ sym (sooner_begins t) ∙ ap (λ (l : List ℕ). at l 0) v)
sooner_twice (later {c = c} {d = d} s) (now {j = j} {k = k} {c = e} {d = f} b another) p q =
    let u : c ≡ k ∷ f = cc in
    let v : d ≡ j ∷ e = cc in
    another (sym (ap (λ (l : List ℕ). at l 0) v) ∙ sym (sooner_begins s) ∙ ap (λ (l : List ℕ). at l 0) u)
sooner_twice (later s) (later t) p q = sooner_twice s t (cc) (cc)

sooner_once : {w : Waits} {c d : List ℕ} → Sooner w c d → Sooner w d c → ⊥
sooner_once s t = sooner_twice s t refl refl

pub one_chosen : {w : Waits} {x : ℕ → ℤ} {i : ℕ} (c d : List ℕ) → Chosen w x i c → Chosen w x i d → d ≡ c
one_chosen {w} c d p q = go (p.sooner d q.explains long) (q.sooner c p.explains (sym long))
  where
    long : length d ≡ length c
    long = omega (arith, p.fewest d q.explains, q.fewest c p.explains)

    go : (d ≡ c) ⊎ Sooner w c d → (c ≡ d) ⊎ Sooner w d c → d ≡ c
    go (inl e) t = e
    go (inr s) (inl e) = sym e
    go (inr s) (inr t) = absurd (sooner_once s t)

module _ (w : Waits) (closed : Closed w) (x : ℕ → ℤ) (sound : Sound w x) (i : ℕ) (i< : i < w.size) where
  module _ (c : List ℕ) (l : Foremost (Held w x i) (Sooner w) w.size c) where
    chosen : Chosen w x i c
    chosen =
        record {
          explains = held_explains l.is;
          fewest = λ d e. l.fewest d (explains_held closed sound i< e);
          sooner = λ d e. l.sooner d (explains_held closed sound i< e);
        }

    -- no other way from one of its records on makes it shorter
    no_shorter : (a : ℕ) → a < length c → {d : List ℕ} → Held w x (at c a) d → length c ≤ a + length d
    no_shorter a a< h = let (b, g, e) = held_cut l.is a a< h in omega (arith, l.fewest b g)

    -- what lies between two places of one record could be left out
    not_again : (a b : ℕ) → a < b → b < length c → at c a ≡ at c b → ⊥
    not_again a b less b< e =
        omega (arith, no_shorter a (omega arith) (rw (← e) at (held_from l.is b b<)), length-drop b c)

    once : Once c
    once a b a< b< e =
        let not_before : ¬ (a < b) = λ l. not_again a b l b< e in
        let not_behind : ¬ (b < a) = λ l. not_again b a l a< (sym e) in
        omega arith

    said : Chain w x i c
    said =
        record {
          chosen = chosen;
          only = λ d. one_chosen c d chosen;
          once = once;
          short = l.short;
          inside = held_inside closed i< l.is;
          alone = (λ e. held_one l.is (l.fewest (i ∷ []) (still e)), λ e. held_alone l.is (rw e (omega arith)));
          moved = λ a a< e. omega (arith, no_shorter a (omega arith) (still e));
          tight = held_tight l.is;
        }

  -- a time that the rounds have come to is explained by fewer waits than there are records
  pub chain_said : (k : ℕ) → k < w.size → round w k i ≡ x i → Chain w x i (chain_of w x i)
  unfolding chain_of
  chain_said k k< e = go (finds w x w.size i)
    where
      go : {o : Option (List ℕ)} → Best (Held w x i) (Sooner w) w.size o → Chain w x i (unwrap_or o [])
      go (all_long long) =
          let (m, low, last) = last_moved w closed x sound k i i< e in
          let (c, h, is) = moved_held (moved_chain w closed x sound m i i< last) in
          absurd (omega (arith, long c h))
      go (foremost {c = c} l) = said c l
