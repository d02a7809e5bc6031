-- A listed line's message, its place and its record.
use native.Mathlib.Omega.{arith}
use Rattle.std.specs.Prelude.{Option, Result, Some, None, Ok, Err, is_some}
use Prim.Native.Nat.{ℕ}
use mathlib.Core.Path.{◌≡◌, refl, sym, ap, ◌∙◌}
use mathlib.Core.List.{List}
use mathlib.Core.Bool.{Bool, true, false, cond, ◌&&◌}
use lib.IntN.{ℤ, pos, negsuc, nat_abs}
use lib.Signed.{le_z, lt_z}
use lib.Dec.{leb-zero}
use borrow.Author.Tests.{eq-eqb, ne_eqb, ltb-true}
use Rattle.paper.specs.Tests.{eq_z, up_to}
use Rattle.paper.specs.Line.{part_of, message_of, lacking, placed, misplaced, on_place, listed_line, role_of, with_role, with_data, values_in}
use Rattle.paper.specs.declared.Data.{Data}
use Rattle.paper.specs.declared.Data.TheVariants.{Three, Others}
use Rattle.paper.specs.declared.Role.{Role}
use Rattle.paper.specs.declared.Part.{Part}
use Rattle.paper.specs.declared.Part.TheVariants.{Neither, Sends, Receives}
use Rattle.paper.specs.declared.Message.{Message}
use Rattle.paper.specs.declared.Head.{Head}
use Rattle.paper.specs.declared.Fault.TheVariants as Fault
use Rattle.paper.specs.declared.Line.TheVariants.{Refused, Listed}
use Rattle.signed.specs.Naturals.{size_of, natural_of}

-- ---- a size, or a number up to the most

not_negative : (z : ℤ) (n : ℕ) → size_of z ≡ Some n → z ≡ pos n
unfolding size_of
not_negative (pos m) n e = let q : m ≡ n = cc in ap pos q
not_negative (negsuc m) n e = cc

negative : (z : ℤ) → size_of z ≡ None → le_z (pos 0) z ≡ false
unfolding size_of
negative (pos m) e = cc
negative (negsuc m) e = refl

up_to_lem : (most : ℕ) (z : ℤ) (n : ℕ) → natural_of most z ≡ Some n → (up_to most z ≡ true) × (nat_abs z ≡ n)
unfolding natural_of
up_to_lem most z n e = go (up_to most z) refl e
  where
    go : (b : Bool) → up_to most z ≡ b → cond b (Some (nat_abs z)) None ≡ Some n → (up_to most z ≡ true) × (nat_abs z ≡ n)
    go true p e = (p, cc)
    go false p e = (cc, cc)

above : (most : ℕ) (z : ℤ) → natural_of most z ≡ None → up_to most z ≡ false
unfolding natural_of
above most z e = go (up_to most z) refl e
  where
    go : (b : Bool) → up_to most z ≡ b → cond b (Some (nat_abs z)) None ≡ None → up_to most z ≡ false
    go true p e = cc
    go false p e = p

-- ---- a message

neither : (b : Bool) (m : Message) → None ≡ cond (b && false) (Some m) None
neither true m = refl
neither false m = refl

module _ {l u t v p w : ℤ} (same_length : u ≡ l) (same_tag : v ≡ t) (same-peer : w ≡ p) where
  pub no_length : size_of u ≡ None → None ≡ message_of (Three l t p)
  unfolding message_of
  no_length e = rw (negative l (rw same_length at e))

  pub no_peer : (n : ℕ) → size_of u ≡ Some n → natural_of 63 w ≡ None → None ≡ message_of (Three l t p)
  unfolding message_of
  no_peer n e h = rw (above 63 p (rw same-peer at h)) (neither (le_z (pos 0) l) _)

  pub good_message : (n m : ℕ) → size_of u ≡ Some n → natural_of 63 w ≡ Some m → Some (record { length = n; tag = v; peer = m }) ≡ message_of (Three l t p)
  unfolding message_of
  good_message n m e h =
      let a : l ≡ pos n = sym same_length ∙ not_negative u n e in
      let b = up_to_lem 63 p m (rw same-peer at h) in
      rw (same_tag, a, leb-zero n, b.0, b.1)

-- ---- the field that a message lacks

below_zero : (z : ℤ) → lt_z z (pos 0) ≡ true → le_z (pos 0) z ≡ false
below_zero (pos m) e = absurd (let h = ltb-true m 0 e in omega arith)
below_zero (negsuc m) e = refl

from_zero : (z : ℤ) → lt_z z (pos 0) ≡ false → le_z (pos 0) z ≡ true
from_zero (pos m) e = leb-zero m
from_zero (negsuc m) e = cc

module _ (h : Head) {l t p u : ℤ} (d : Data) (same_length : u ≡ l) (is : d ≡ Three l t p) where
  pub lacks_length : lt_z u (pos 0) ≡ true → 7 ≡ lacking h d
  unfolding lacking
  lacks_length e = rw (is, below_zero l (rw same_length at e))

  pub lacks_peer : lt_z u (pos 0) ≡ false → 9 ≡ lacking h d
  unfolding lacking
  lacks_peer e = rw (is, from_zero l (rw same_length at e))

module _ (h : Head) (d : Data) (is : d ≡ Others) where
  pub lacks_descriptor : h.count ≡ 3 → 6 ≡ lacking h d
  unfolding lacking
  lacks_descriptor e = rw (is, eq-eqb h.count 3 e)

  pub lacks_data : (h.count ≡ 3 → ⊥) → 5 ≡ lacking h d
  unfolding lacking
  lacks_data e = rw (is, ne_eqb h.count 3 e)

-- ---- the place of a listed record

module _ {p u q v : ℤ} (same-processor : u ≡ p) (same-process : v ≡ q) where
  pub other_process : eq_z v (pos 0) ≡ false → None ≡ placed p q
  unfolding placed
  other_process z = rw (← same-process, z) (go (up_to 63 p))
    where
      go : (b : Bool) → None ≡ cond (b && false) (Some (nat_abs p)) None
      go true = refl
      go false = refl

  pub own_process : eq_z v (pos 0) ≡ true → (r : Option ℕ) → r ≡ natural_of 63 u → r ≡ placed p q
  unfolding placed natural_of
  own_process z r e = rw (e, same-processor, ← same-process, z) (go (up_to 63 p))
    where
      go : (b : Bool) → (cond b (Some (nat_abs p)) None) ≡ cond (b && true) (Some (nat_abs p)) None
      go true = refl
      go false = refl

some_up_to : (most : ℕ) (z : ℤ) → is_some (natural_of most z) ≡ up_to most z
unfolding natural_of
some_up_to most z = go (up_to most z)
  where
    go : (b : Bool) → is_some (cond b (Some (nat_abs z)) None) ≡ b
    go true = refl
    go false = refl

module _ (h : Head) {u : ℤ} (same : u ≡ h.processor) {r : Option ℕ} (is : r ≡ natural_of 63 u) {told : Bool} (tells : told ≡ is_some r) where
  up_to_told : told ≡ up_to 63 h.processor
  up_to_told = tells ∙ ap is_some is ∙ some_up_to 63 u ∙ ap (up_to 63) same

  pub other_processor : told ≡ false → 3 ≡ misplaced h
  unfolding misplaced
  other_processor e = rw (← up_to_told, e)

  pub own_processor : told ≡ true → 4 ≡ misplaced h
  unfolding misplaced
  own_processor e = rw (← up_to_told, e)

module _ (h : Head) (fields : Option (List ℕ)) (r : Option ℕ) (is : r ≡ placed h.processor h.process) where
  pub no_place : r ≡ None → {k : ℕ} → k ≡ misplaced h → Refused Fault.Place (Some k) ≡ listed_line h fields
  unfolding listed_line on_place
  no_place e q = rw (q, ← is, e)

  module _ (n : ℕ) (o : r ≡ Some n) where
    pub bad_data : (k : ℕ) → Err k ≡ values_in h.kind h.count fields → Refused Fault.Form (Some k) ≡ listed_line h fields
    unfolding listed_line on_place with_data
    bad_data k s = rw (← is, o, ← s)

    pub good_place : {k e : ℤ} (d : Data) (part : Part) (role : Option Role) → k ≡ h.kind → e ≡ h.event → part ≡ part_of k e → role ≡ role_of part d
        → Ok d ≡ values_in h.kind h.count fields → with_role h n d role ≡ listed_line h fields
    unfolding listed_line on_place with_data
    good_place d part role b c q t s = rw (← is, o, ← s, t, q, b, c)

-- the data that were read of this record type
pub read_of : {k u : ℤ} (n : ℕ) (fields : Option (List ℕ)) {r x : Result Data ℕ} → r ≡ values_in u n fields → u ≡ k → r ≡ x → x ≡ values_in k n fields
read_of n fields e same is = rw (← is, e, same)

-- ---- the record put together

module _ (h : Head) (p : ℕ) (values : Data) (o : Option Role) where
  pub listed_with : {t k e : ℤ} (role : Role) → t ≡ h.time → k ≡ h.kind → e ≡ h.event → o ≡ Some role
      → Listed (record { time = t; processor = p; kind = k; event = e; values = values; role = role }) ≡ with_role h p values o
  unfolding with_role
  listed_with role a b c q = rw (a, b, c, q)

  pub not_with : o ≡ None → {k : ℕ} → k ≡ lacking h values → Refused Fault.NoMessage (Some k) ≡ with_role h p values o
  unfolding with_role
  not_with q e = rw (q, e)

-- ---- the role by the part and the message

module _ (part : Part) (d : Data) where
  pub role_neither : part ≡ Neither → Some Role.Neither ≡ role_of part d
  unfolding role_of
  role_neither e = rw e

  module _ (r : Option Message) (is : r ≡ message_of d) where
    pub role_sends : (m : Message) → part ≡ Sends → r ≡ Some m → Some (Role.Send m) ≡ role_of part d
    unfolding role_of
    role_sends m e q = rw (e, ← is, q)

    pub no_send : part ≡ Sends → r ≡ None → None ≡ role_of part d
    unfolding role_of
    no_send e q = rw (e, ← is, q)

    pub role_receives : (m : Message) → part ≡ Receives → r ≡ Some m → Some (Role.Receive m) ≡ role_of part d
    unfolding role_of
    role_receives m e q = rw (e, ← is, q)

    pub no_receive : part ≡ Receives → r ≡ None → None ≡ role_of part d
    unfolding role_of
    no_receive e q = rw (e, ← is, q)

-- three data handed on
pub three_handed : {a u b v c w : ℤ} (d : Data) → u ≡ a → v ≡ b → w ≡ c → d ≡ Three a b c → message_of (Three u v w) ≡ message_of d
three_handed d p q r e = rw (p, q, r, e)
