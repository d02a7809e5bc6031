-- Row 10: well_formed data without a message lack what the row says, and in the field that it names.
use Rattle.std.specs.Prelude.{Option, Some, None, Ok, Err}
use Prim.Native.Nat.{ℕ, zero, suc}
use native.Mathlib.Omega.{arith}
use mathlib.Core.Path.{◌≡◌, refl, sym, ◌∙◌}
use mathlib.Core.Logic.{◌⊎◌, inl, inr}
use mathlib.Core.Bool.{Bool, true, false, cond, ◌&&◌}
use mathlib.Core.List.{List}
use lib.ListN.{length}
use lib.IntN.{ℤ, pos, negsuc}
use lib.Signed.{le_z, le_z_yes, lt_z_yes, clash_ℤ, ◌≤ℤ◌, ◌<ℤ◌}
use lib.Dec.{leb, eqb}
use borrow.Author.Tests.{eqb-true, eqb-false, eq-eqb, ne_eqb, le-leb, leb-true, leb-false}
use Rattle.paper.specs.Tests.{eq_z, up_to}
use Rattle.paper.specs.Forms.{whole_of, time_of}
use Rattle.paper.specs.Line.{field, rest, on_field, Numbers, wrong, numbers, values_of, as_wholes, as_others, described, data_of, message_of, lacking}
use Rattle.paper.specs.declared.Data.{Data}
use Rattle.paper.specs.declared.Data.TheVariants.{Three, Others}
use Rattle.paper.specs.declared.Head.{Head}
use Rattle.paper.specs.declared.Message.{Message}
use Rattle.forms.proofs.Tests.{never}
use Rattle.reading.proofs.Data.{values_many, WholesTold, wholes_told, data_many}
use Rattle.demands.specs.Rows.{Lacks, other_count, other_descriptor, bad_length, bad_peer}
use Rattle.demands.proofs.DataRows.{read_tells, data_none, data_some}

-- ---- the data are as many as stated

-- whole numbers are kept as three exactly if three are stated
abbrev Kept : ℕ → Data → Type 0
Kept n values = ((n ≡ 3) × ¬ (values ≡ Others)) ⊎ ((¬ (n ≡ 3)) × (values ≡ Others))

wholes_kept : (n : ℕ) (fields : Option (List ℕ)) (values : Data) → as_wholes (values_of whole_of 7 n fields) ≡ Ok values → Kept n values
unfolding as_wholes
wholes_kept n fields values e = go (values_of whole_of 7 n fields) refl e
  where
    on_numbers : (vs : List ℤ) → length vs ≡ n → as_wholes (numbers vs) ≡ Ok values → WholesTold vs → Kept n values
    on_numbers vs many e (inl (three, a, b, c, f)) = inl (sym many ∙ three, λ o. never (cc))
    on_numbers vs many e (inr (other, f)) = inr (λ three. other (many ∙ three), cc)

    go : (x : Numbers) → values_of whole_of 7 n fields ≡ x → as_wholes x ≡ Ok values → Kept n values
    go (wrong k) q e = never (cc)
    go (numbers vs) q e = on_numbers vs (values_many whole_of 7 n fields vs q) e (wholes_told vs)

-- ---- data that are well formed

-- none, or some under descriptor 2 or 5
data Formed (n : ℕ) : Option (List ℕ) → Data → Type 0 where
  no_data : n ≡ 0 → Formed n None Others
  by_wholes : {l : List ℕ} {values : Data} → whole_of (field l) ≡ Some (pos 2) → as_wholes (values_of whole_of 7 n (rest l)) ≡ Ok values
      → Formed n (Some l) values
  by_times : {l : List ℕ} → whole_of (field l) ≡ Some (pos 5) → Formed n (Some l) Others

others_good : (x : Numbers) (values : Data) → as_others x ≡ Ok values → Others ≡ values
unfolding as_others
others_good (wrong k) values e = never (cc)
others_good (numbers vs) values e = cc

module _ (n : ℕ) (l : List ℕ) (values : Data) where
  described_formed : (v : ℤ) → whole_of (field l) ≡ Some v → described n v (rest l) ≡ Ok values → Formed n (Some l) values
  unfolding described
  described_formed v p e = go (eq_z v (pos 2)) refl (eq_z v (pos 5)) refl e
    where
      go : (t : Bool) → eq_z v (pos 2) ≡ t → (u : Bool) → eq_z v (pos 5) ≡ u
          → cond t (as_wholes (values_of whole_of 7 n (rest l))) (cond u (as_others (values_of time_of 7 n (rest l))) (Err 6)) ≡ Ok values
          → Formed n (Some l) values
      go true t u q e = by_wholes ((read_tells l v (pos 2) p).holds t) e
      go false t true q e = rw (← others_good _ values e) (by_times ((read_tells l v (pos 5) p).holds q))
      go false t false q e = never (cc)

  descriptor_formed : (x : Option ℤ) → whole_of (field l) ≡ x → on_field x (Err 6) (λ v. described n v (rest l)) ≡ Ok values
      → Formed n (Some l) values
  descriptor_formed None p e = never (cc)
  descriptor_formed (Some v) p e = described_formed v p e

formed : (n : ℕ) (fields : Option (List ℕ)) (values : Data) → data_of n fields ≡ Ok values → Formed n fields values
unfolding data_of values_of as_others
formed zero None values e = let z : Others ≡ values = cc in rw (← z) (no_data refl)
formed zero (Some l) values e = never (cc)
formed (suc n) fields values e = go (leb (suc n) 16) refl fields e
  where
    go : (t : Bool) → leb (suc n) 16 ≡ t → (f : Option (List ℕ)) → data_of (suc n) f ≡ Ok values → Formed (suc n) f values
    go true t None e = let q = data_none (suc n) (omega arith) (leb-true _ _ t) in never (cc)
    go true t (Some l) e = descriptor_formed (suc n) l values _ refl (sym (data_some (suc n) (omega arith) (leb-true _ _ t) l) ∙ e)
    go false t f e = let q = data_many (suc n) f (leb-false _ _ t) in never (cc)

module _ {n : ℕ} where
  -- three under another descriptor
  other_three : {fields : Option (List ℕ)} → n ≡ 3 → Formed n fields Others → Lacks n fields 6
  other_three three (no_data z) = absurd (omega arith)
  other_three three (by_wholes {l = l} p e) = go (wholes_kept n (rest l) _ e)
    where
      go : Kept n Others → Lacks n (Some l) 6
      go (inl (same, kept)) = absurd (kept refl)
      go (inr (other, kept)) = absurd (other three)
  other_three three (by_times {l = l} p) = other_descriptor l three refl (λ q. let z : ◌≡◌ {A = ℕ} 5 2 = cc in omega arith)

  -- another number of them, or another descriptor
  not_kept : {fields : Option (List ℕ)} {values : Data} → Formed n fields values
      → ((l : List ℕ) → fields ≡ Some l → n ≡ 3 → ¬ (whole_of (field l) ≡ Some (pos 2))) → Others ≡ values
  not_kept (no_data z) h = refl
  not_kept (by_wholes {l = l} {values = values} p e) h = go (wholes_kept n (rest l) _ e)
    where
      go : Kept n values → Others ≡ values
      go (inl (three, kept)) = absurd (h l refl three p)
      go (inr (other, kept)) = sym kept
  not_kept (by_times p) h = refl

-- ---- "Length is 0 or more"

below_zero : (z : ℤ) → le_z (pos 0) z ≡ false → z <ℤ pos 0
below_zero (pos n) e = absurd (omega (arith, leb-false 0 n e))
below_zero (negsuc n) e = lt_z_yes tt

not_above_zero : (z : ℤ) → z <ℤ pos 0 → le_z (pos 0) z ≡ false
not_above_zero (pos n) h = clash_ℤ h (le_z_yes (rw (le-leb 0 n (omega arith)) tt))
not_above_zero (negsuc n) h = refl

above_zero : (z : ℤ) → pos 0 ≤ℤ z → le_z (pos 0) z ≡ true
above_zero (pos n) h = le-leb 0 n (omega arith)
above_zero (negsuc n) h = absurd h.le

-- ---- the row

module _ (h : Head) (fields : Option (List ℕ)) where
  pub lacks : (values : Data) → data_of h.count fields ≡ Ok values → message_of values ≡ None → Lacks h.count fields (lacking h values)
  unfolding message_of lacking
  lacks (Three size tag peer) good m = go (le_z (pos 0) size) refl (up_to 63 peer) refl _ m
    where
      go : (t : Bool) → le_z (pos 0) size ≡ t → (u : Bool) → up_to 63 peer ≡ u → (x : Message) → cond (t && u) (Some x) None ≡ None
          → Lacks h.count fields (cond t 9 7)
      go false t u q x m = bad_length size tag peer good (below_zero size t)
      go true t false q x m = bad_peer size tag peer good (le_z_yes (rw t tt)) q
      go true t true q x m = never (cc)
  lacks Others good m = go (eqb h.count 3) refl
    where
      go : (t : Bool) → eqb h.count 3 ≡ t → Lacks h.count fields (cond t 6 5)
      go true t = other_three (eqb-true _ _ t) (formed h.count fields Others good)
      go false t = other_count (eqb-false _ _ t)

  -- ---- and back

  pub lacks_back : (values : Data) → data_of h.count fields ≡ Ok values → (k : ℕ) → Lacks h.count fields k
      → (message_of values ≡ None) × (lacking h values ≡ k)
  unfolding message_of lacking
  lacks_back values good k (other_count other) =
      rw (← not_kept (formed h.count fields values good) (λ l is three. absurd (other three))) (refl, rw (ne_eqb _ _ other))
  lacks_back values good k (other_descriptor l three is other) =
      rw (← not_kept (formed h.count fields values good) (λ m there same. let z : l ≡ m = cc in rw z at other)) (refl, rw (eq-eqb _ _ three))
  lacks_back values good k (bad_length size tag peer three low) =
      let z : Three size tag peer ≡ values = cc in
      rw (← z) (rw (not_above_zero size low), rw (not_above_zero size low))
  lacks_back values good k (bad_peer size tag peer three low high) =
      let z : Three size tag peer ≡ values = cc in
      rw (← z) (rw (above_zero size low, high), rw (above_zero size low))
