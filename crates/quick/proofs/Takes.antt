-- The data of a line, one by one.
use Rattle.std.specs.Prelude.{Option, Result, Some, None, Ok}
use Prim.Native.Nat.{ℕ, zero, suc, ◌+◌, ◌-◌, ◌≤◌, ◌<◌}
use mathlib.Core.Path.{◌≡◌, refl, sym, ap, ◌∙◌}
use mathlib.Core.List.{List, [], ◌∷◌, ◌++◌}
use mathlib.Core.Bool.{Bool, true, false}
use native.Mathlib.Omega.{arith}
use lib.ListN.{length, length-append}
use lib.IntN.{ℤ}
use lib.Dec.{eqb}
use borrow.Author.Tests.{eq-eqb, ne_eqb, eqb-true, eqb-false}
use Rattle.paper.specs.Forms.{whole_of}
use Rattle.paper.specs.Line.{first, first_of, Numbers, numbers, pushed, values_of, as_wholes, as_others, described, data_of}
use Rattle.paper.specs.declared.Data.{Data}
use Rattle.paper.specs.declared.Data.TheVariants.{Three, Others}
use Rattle.field.specs.Cursor.{read_as}
use Rattle.field.specs.declared.Form.{Form}
use Rattle.field.specs.declared.Form.TheVariants.{Whole, Time, TimesQuoted, NumbersQuoted}
use Rattle.reading.specs.Places.{line_at, next_line}
use Rattle.reading.specs.Rests.{fields_from, end_from, Ended}
use Rattle.values.specs.Few.{Few}
use Rattle.values.proofs.Values.{not_three, with_descriptor}
use Rattle.values.proofs.Either.{nothing_due}
use Rattle.quick.specs.Lines.{Told, in_form, last_of, DataAt, HoldsAt}

-- values before those that are still to come
abbrev prefixed : List ℤ → Numbers → Numbers
prefixed [] x = x
prefixed (v ∷ vs) x = pushed v (prefixed vs x)

one_more : (vs : List ℤ) (v : ℤ) (x : Numbers) → prefixed vs (pushed v x) ≡ prefixed (vs ++ (v ∷ [])) x
one_more [] v x = refl
one_more (u ∷ vs) v x = ap (pushed u) (one_more vs v x)

no_more : (vs : List ℤ) → prefixed vs (numbers []) ≡ numbers vs
no_more [] = refl
no_more (v ∷ vs) = ap (pushed v) (no_more vs)

-- ---- the last three of some values

pub record Last (vs : List ℤ) (a b c : ℤ) : Type 0 where
  one : length vs ≡ 1 → vs ≡ c ∷ []
  two : length vs ≡ 2 → vs ≡ b ∷ c ∷ []
  three : length vs ≡ 3 → vs ≡ a ∷ b ∷ c ∷ []

empty : (vs : List ℤ) → length vs ≡ 0 → vs ≡ []
empty [] e = refl
empty (v ∷ vs) e = absurd (omega arith)

last_more : (vs : List ℤ) {a b c : ℤ} (v : ℤ) → Last vs a b c → Last (vs ++ (v ∷ [])) b c v
last_more vs v h =
    let long = length-append vs (v ∷ []) in
    record {
      one = λ e. rw (empty vs (omega (arith, long)));
      two = λ e. rw (h.one (omega (arith, long)));
      three = λ e. rw (h.two (omega (arith, long)));
    }

-- only of three whole numbers more is told than that they are there
pub last_other : (form : Form) (n : ℕ) (a b c : ℤ) → (form ≡ Whole → ⊥) → Others ≡ last_of form n a b c
unfolding last_of
last_other Whole n a b c other = absurd (other refl)
last_other Time n a b c other = refl
last_other TimesQuoted n a b c other = refl
last_other NumbersQuoted n a b c other = refl

-- ---- the loop: what was read, and what is left to read, from whatever field on

pub record Taking (form : Form) (n : ℕ) (s : List ℕ) (at : ℕ) (a b c : ℤ) (p left : ℕ) : Type 0 where
  vs : List ℤ
  k : ℕ
  many : length vs + left ≡ n
  reads : values_of (read_as form) 7 n (Some (line_at s at)) ≡ prefixed vs (values_of (read_as form) k left (fields_from s (eqb left 0) p))
  same : next_line s at ≡ end_from s (eqb left 0) p
  near : at ≤ length s → p ≤ length s
  last : Last vs a b c

pub taking_start : (form : Form) (n : ℕ) (s : List ℕ) (at : ℕ) {a b c : ℤ} → 0 < n → Taking form n s at a b c at n
unfolding fields_from end_from
taking_start form n s at h =
    let not_yet = ne_eqb n 0 (λ e. omega arith) in
    record {
      vs = [];
      k = 7;
      many = omega arith;
      reads = rw not_yet;
      same = rw not_yet;
      near = λ here. here;
      last = record { one = λ e. absurd (omega arith); two = λ e. absurd (omega arith); three = λ e. absurd (omega arith) };
    }

-- before the last one there are some
pub going : (left : ℕ) → 0 < left → eqb left 0 ≡ false
going left h = ne_eqb left 0 (λ z. omega arith)

-- the last one is the one before none
pub last_test : (left : ℕ) → 0 < left → eqb (left - 1) 0 ≡ eqb left 1
last_test left h = go (eqb left 1) refl
  where
    go : (t : Bool) → eqb left 1 ≡ t → eqb (left - 1) 0 ≡ t
    go true e = eq-eqb (left - 1) 0 (omega (arith, eqb-true left 1 e))
    go false e = ne_eqb (left - 1) 0 (λ z. eqb-false left 1 e (omega arith))

step : (form : List ℕ → Option ℤ) (k left : ℕ) → 0 < left → (f g : Option (List ℕ)) (v : ℤ) → first_of form f ≡ first v g
    → values_of form k left f ≡ pushed v (values_of form (suc k) (left - 1) g)
unfolding values_of
step form k zero h f g v e = absurd (omega arith)
step form k (suc left) h f g v e = let one : suc left - 1 ≡ left = omega arith in rw (e, one)

module _ {form : Form} {n : ℕ} {s : List ℕ} {at : ℕ} {a b c : ℤ} {p left : ℕ} (taking : Taking form n s at a b c p left) where
  module _ (h : 0 < left) where
    pub taking_more : {v u : ℤ} (next : ℕ) → u ≡ v → {last : Bool} → last ≡ eqb left 1
        → Told (first_of (read_as form) (Some (line_at s p))) (first v) s p last next → Taking form n s at b c u next (left - 1)
    unfolding fields_from end_from
    taking_more {v} {u} next e {last} is told =
        let at_last : last ≡ eqb (left - 1) 0 = is ∙ sym (last_test left h) in
        let read : first_of (read_as form) (Some (line_at s p)) ≡ first v (fields_from s (eqb (left - 1) 0) next) = rw at_last at told.reads in
        let end : next_line s p ≡ end_from s (eqb (left - 1) 0) next = rw at_last at told.same in
        record {
          vs = taking.vs ++ (v ∷ []);
          k = suc taking.k;
          many = rw length-append (omega (arith, taking.many));
          reads = taking.reads ∙ ap (prefixed taking.vs) (rw (going left h) (step (read_as form) taking.k left h (Some (line_at s p)) _ v read)) ∙ one_more taking.vs v _;
          same = taking.same ∙ rw going end;
          near = λ here. told.near;
          last = rw e (last_more taking.vs v taking.last);
        }

  module _ (h : left ≤ 0) where
    gone : left ≡ 0
    gone = omega arith

    all : values_of (read_as form) 7 n (Some (line_at s at)) ≡ numbers taking.vs
    unfolding fields_from values_of
    all = taking.reads ∙ rw gone (no_more taking.vs)

    -- what is told of them
    kept : Ok (last_of form n a b c) ≡ in_form form n (Some (line_at s at))
    unfolding last_of in_form as_wholes as_others
    kept = go form (eqb n 3) refl all taking.last taking.many
      where
        three : (vs : List ℤ) → vs ≡ a ∷ b ∷ c ∷ [] → Ok (Three a b c) ≡ as_wholes (numbers vs)
        three vs e = rw e

        go : (form : Form) (t : Bool) → eqb n 3 ≡ t → values_of (read_as form) 7 n (Some (line_at s at)) ≡ numbers taking.vs → Last taking.vs a b c
            → length taking.vs + left ≡ n → Ok (last_of form n a b c) ≡ in_form form n (Some (line_at s at))
        go Time t e is last many = rw is
        go TimesQuoted t e is last many = rw is
        go NumbersQuoted t e is last many = rw is
        go Whole true e is last many = rw (e, is) (three taking.vs (last.three (omega (arith, eqb-true n 3 e))))
        go Whole false e is last many = rw (e, ← not_three (read_as Whole) 7 n (Some (line_at s at)) (eqb-false n 3 e), is)

    pub taking_end : {d : Data} → d ≡ last_of form n a b c → Ended (Ok d) (in_form form n (fields_from s false at)) s false at p
    unfolding fields_from end_from
    taking_end e = record { is = ap Ok e ∙ kept; ends = taking.same ∙ rw gone; near = taking.near }

-- ---- the descriptor before them

module _ (s : List ℕ) (at : ℕ) where
  pub as_described : (there inside : Option (List ℕ) → Result Data ℕ) (r : Option (Data × ℕ)) → ((f : Option (List ℕ)) → inside f ≡ there f)
      → DataAt inside s false at r → DataAt there s false at r
  unfolding DataAt
  as_described there inside (Some (values, next)) e t = record { is = t.is ∙ e _; ends = t.ends; near = t.near }
  as_described there inside None e t = tt

  -- what is behind the first field, whatever it says
  pub behind_first : (there inside : Option (List ℕ) → Result Data ℕ) (form : List ℕ → Option ℤ) {d : ℤ} (next : ℕ)
      → Told (first_of form (Some (line_at s at))) (first d) s at false next
      → ((f : Option (List ℕ)) → first_of form (Some (line_at s at)) ≡ first d f → inside f ≡ there (Some (line_at s at)))
      → (r : Option (Data × ℕ)) → DataAt inside s false next r → DataAt there s false at r
  unfolding DataAt fields_from end_from
  behind_first there inside form next told e (Some (values, end)) t =
      record { is = t.is ∙ e (Some (line_at s next)) told.reads; ends = told.same ∙ t.ends; near = λ k. t.near told.near }
  behind_first there inside form next told e None t = tt

  pub behind_descriptor : (next n : ℕ) {u d : ℤ} → Few n → u ≡ d → Told (first_of whole_of (Some (line_at s at))) (first d) s at false next
      → (r : Option (Data × ℕ)) → DataAt (described n u) s false next r → DataAt (data_of n) s false at r
  behind_descriptor next n {u} few e told r t =
      behind_first (data_of n) (described n u) whole_of next told (λ f is. with_descriptor (Some (line_at s at)) n few _ f is e) r t

pub same_kind : (s : List ℕ) (ended : Bool) (at n : ℕ) (r : Option (Data × ℕ)) {u kind : ℤ} → u ≡ kind → HoldsAt s ended at u n r → HoldsAt s ended at kind n r
same_kind s ended at n r e t = rw (← e) t

pub no_data_here : (s : List ℕ) (at : ℕ) (kind : ℤ) (n : ℕ) → n ≡ 0 → HoldsAt s true at kind n (Some (Others, at))
unfolding DataAt HoldsAt fields_from end_from
no_data_here s at kind n e = record { is = nothing_due kind n e; ends = refl; near = λ k. k }
