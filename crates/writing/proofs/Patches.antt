-- One stamp replaced.
use Rattle.std.specs.Prelude.{Option, Some, None}
use Prim.Native.Nat.{ℕ, ◌-◌, ◌≤◌, ◌<◌}
use mathlib.Core.Path.{◌≡◌, refl, sym, ap}
use mathlib.Core.List.{List, [], ◌∷◌, ◌++◌, append_assoc}
use mathlib.Core.Bool.{Bool, true, false, cond, ◌&&◌}
use native.Mathlib.Omega.{arith}
use borrow.Author.Tests.{le-leb, lt-ltb, leb-true, ltb-true}
use lib.ListN.{length, take, drop, length-append}
use lib.IntN.{ℤ, nat_abs}
use lib.Dec.{leb, ltb}
use Rattle.paper.specs.Forms.{time_shown}
use Rattle.shown.specs.Writes.{shown_length}
use Rattle.forms.proofs.Tests.{both, never}
use Rattle.forms.proofs.Back.{shown_long, shown_short}
use Rattle.stamps.specs.Stamps.{stamp_on, stamp_length, in_place}
use Rattle.writing.specs.Patched.{Move, behind, patched}

-- ---- bytes in front

pub behind_none : (a : List ℕ) → behind a None ≡ None
unfolding behind
behind_none a = refl

pub behind_some : (a b : List ℕ) → behind a (Some b) ≡ Some (a ++ b)
unfolding behind
behind_some a b = refl

pub behind_nothing : (o : Option (List ℕ)) → behind [] o ≡ o
unfolding behind
behind_nothing None = refl
behind_nothing (Some b) = refl

pub behind_both : (a b : List ℕ) (o : Option (List ℕ)) → behind a (behind b o) ≡ behind (a ++ b) o
unfolding behind
behind_both a b None = refl
behind_both a b (Some c) = ap Some (sym (append_assoc a b c))

pub front_short : (a : List ℕ) (o : Option (List ℕ)) (w : List ℕ) → behind a o ≡ Some w → length a ≤ length w
unfolding behind
front_short a None w e = never (cc)
front_short a (Some b) w e = let q : a ++ b ≡ w = cc in rw (← q) (simp length-append (omega arith))

-- ---- a time that has a form

pub record HasForm (z : ℤ) : Type 0 where
  pub size : nat_abs z ≤ 999999999999999
  pub is : shown_length z ≡ length (time_shown z)
  pub low : 8 ≤ shown_length z
  pub high : shown_length z ≤ 17

pub in_range : (z : ℤ) → nat_abs z ≤ 999999999999999 → HasForm z
unfolding shown_length
in_range z h =
    let e : shown_length z ≡ length (time_shown z) = rw (le-leb (nat_abs z) 999999999999999 h) in
    record { size = h; is = e; low = omega (arith, shown_long z); high = omega (arith, shown_short z) }

pub takes_some : (z : ℤ) → 0 < shown_length z → HasForm z
unfolding shown_length
takes_some z h = go (leb (nat_abs z) 999999999999999) refl h
  where
    go : (t : Bool) → leb (nat_abs z) 999999999999999 ≡ t → 0 < cond t (length (time_shown z)) 0 → HasForm z
    go true e h = in_range z (leb-true _ _ e)
    go false e h = absurd (omega arith)

-- ---- a stamp in its place

pub record InPlace (left there old new : ℕ) : Type 0 where
  pub begins : there ≤ left
  pub ends : old ≤ there
  pub was : 0 < old
  pub gets : 0 < new

module _ {left there old new : ℕ} where
  pub in_place_lem : InPlace left there old new → in_place left there old new ≡ true
  unfolding in_place
  in_place_lem p = rw (le-leb there left p.begins, le-leb old there p.ends, lt-ltb 0 old p.was, lt-ltb 0 new p.gets)

  pub place_told : in_place left there old new ≡ true → InPlace left there old new
  unfolding in_place
  place_told e =
      let (e₁, gets) = both (leb there left && leb old there && ltb 0 old) (ltb 0 new) e in
      let (e₂, was) = both (leb there left && leb old there) (ltb 0 old) e₁ in
      let (begins, ends) = both (leb there left) (leb old there) e₂ in
      record { begins = leb-true _ _ begins; ends = leb-true _ _ ends; was = ltb-true _ _ was; gets = ltb-true _ _ gets }

-- ---- the next stamp

module _ (s : List ℕ) (store : List ℕ) (rest : List ℕ) (k : ℕ) (t : ℤ) (moves : List Move) where
  abbrev stamp : List ℕ
  stamp = stamp_on s store k

  abbrev placed : Bool
  placed = in_place (length rest) (length stamp) (stamp_length store k) (shown_length t)

  pub stamp_replaced : placed ≡ true → patched s store rest (record { place = k; time = t } ∷ moves)
      ≡ behind (take (length rest - length stamp) rest ++ time_shown t) (patched s store (drop (stamp_length store k) stamp) moves)
  unfolding patched
  stamp_replaced h = rw h

  pub stamp_misplaced : placed ≡ false → patched s store rest (record { place = k; time = t } ∷ moves) ≡ None
  unfolding patched
  stamp_misplaced h = rw h
