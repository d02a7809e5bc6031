-- The data of a listed record.
use Rattle.std.specs.Prelude.{Option, Result, Ok, Err}
use Prim.Native.Nat.{ℕ, zero, suc, ◌+◌, ◌-◌, ◌≤◌, ◌<◌}
use mathlib.Core.Path.{◌≡◌, refl, sym, ◌∙◌}
use mathlib.Core.Logic.{inl, inr}
use mathlib.Core.List.{List}
use mathlib.Core.Bool.{true, false}
use native.Mathlib.Omega.{arith}
use lib.ListN.{length}
use lib.IntN.{ℤ, pos}
use Rattle.paper.specs.Tests.{eq_z}
use Rattle.paper.specs.Forms.{whole_of, time_of}
use Rattle.paper.specs.Line.{nothing, first, first_of, Numbers, wrong, numbers, pushed, values_of, as_wholes, as_others, described, data_of}
use Rattle.paper.specs.declared.Data.{Data}
use Rattle.paper.specs.declared.Data.TheVariants.{Three, Others}
use Rattle.reading.proofs.Data.{values_many, WholesTold, wholes_told, data_few}
use Rattle.field.specs.Cursor.{rest_at}
use Rattle.field.proofs.Cursors.{past, inside}
use Rattle.values.specs.Few.{Few}

-- ---- the loop over the data

others_pushed : (v : ℤ) (x : Numbers) → as_others (pushed v x) ≡ as_others x
unfolding as_others
others_pushed v (wrong k) = refl
others_pushed v (numbers vs) = refl

-- data that are left from field k on
module _ (form : List ℕ → Option ℤ) (k : ℕ) (f : Option (List ℕ)) where
  left_stop : (left : ℕ) → 0 < left → first_of form f ≡ nothing → Err k ≡ as_others (values_of form k left f)
  unfolding values_of as_others
  left_stop zero h e = absurd (omega arith)
  left_stop (suc left) h e = rw e

  left_go : (left : ℕ) (v : ℤ) (g : Option (List ℕ)) → first_of form f ≡ first v g
      → as_others (values_of form k (suc left) f) ≡ as_others (values_of form (suc k) left g)
  unfolding values_of
  left_go left v g e = rw e (others_pushed v (values_of form (suc k) left g))

-- i of n data are read
module _ (form : List ℕ → Option ℤ) (i n : ℕ) where
  pub values_stop : (f : Option (List ℕ)) → i < n → first_of form f ≡ nothing → Err (7 + i) ≡ as_others (values_of form (7 + i) (n - i) f)
  values_stop f h e = left_stop form (7 + i) f (n - i) (omega arith) e

  pub values_go : (f : Option (List ℕ)) → i < n → (v : ℤ) (g : Option (List ℕ)) → first_of form f ≡ first v g
      → as_others (values_of form (7 + i) (n - i) f) ≡ as_others (values_of form (7 + (i + 1)) (n - (i + 1)) g)
  values_go f h v g e =
      let left : n - i ≡ suc (n - (i + 1)) = omega arith in
      let next : 7 + (i + 1) ≡ suc (7 + i) = omega arith in
      rw (left, next) (left_go form (7 + i) f (n - (i + 1)) v g e)

  module _ (l : List ℕ) (at : ℕ) (all : n ≤ i) where
    none_left : n - i ≡ 0
    none_left = omega arith

    pub values_end : length l < at → Ok Others ≡ as_others (values_of form (7 + i) (n - i) (rest_at l at))
    unfolding values_of as_others
    values_end h = rw (none_left, past l at h)

    pub values_more : at ≤ length l → Err (7 + i) ≡ as_others (values_of form (7 + i) (n - i) (rest_at l at))
    unfolding values_of as_others
    values_more h = rw (none_left, inside l at h)

-- ---- three whole numbers

pub three_made : {a a' b b' c c' : ℤ} → a ≡ a' → b ≡ b' → c ≡ c' → ◌≡◌ {A = Result Data ℕ} (Ok (Three a b c)) (Ok (Three a' b' c'))
three_made p q r = rw (p, q, r)

-- ---- other data

-- only three whole numbers are told from other data
pub not_three : (form : List ℕ → Option ℤ) (k n : ℕ) (f : Option (List ℕ)) → (n ≡ 3 → ⊥) → as_others (values_of form k n f) ≡ as_wholes (values_of form k n f)
unfolding as_others as_wholes
not_three form k n f h = go (values_of form k n f) refl
  where
    other : (vs : List ℤ) → length vs ≡ n → WholesTold vs → Ok Others ≡ as_wholes (numbers vs)
    other vs many (inl (three, a, b, c, told)) = absurd (h (sym many ∙ three))
    other vs many (inr (not-so-many, told)) = sym told

    go : (x : Numbers) → values_of form k n f ≡ x → as_others x ≡ as_wholes x
    go (wrong j) e = refl
    go (numbers vs) e = other vs (values_many form k n f vs e) (wholes_told vs)

-- ---- behind the number of data

module _ (f : Option (List ℕ)) (n : ℕ) (few : Few n) where
  pub no_descriptor : first_of whole_of f ≡ nothing → Err 6 ≡ data_of n f
  no_descriptor e = rw (data_few n few.some few.most f, e)

  pub with_descriptor : (d : ℤ) (g : Option (List ℕ)) → first_of whole_of f ≡ first d g → {u : ℤ} → u ≡ d → described n u g ≡ data_of n f
  with_descriptor d g e p = rw (data_few n few.some few.most f, e, p)
