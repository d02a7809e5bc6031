-- What the answers of `write_trace` say, and that any two outcomes allowed for the same inputs are the same.
use Rattle.std.specs.Prelude.{Option, Result, Some, None, Ok, Err}
use Prim.Native.Nat.{ℕ, ◌+◌, ◌-◌, ◌≤◌, ◌<◌}
use mathlib.Core.Path.{◌≡◌, refl, sym, ap, ◌∙◌}
use mathlib.Core.List.{List, ◌++◌}
use mathlib.Core.Bool.{Bool, true, false, cond}
use native.Mathlib.Omega.{arith}
use borrow.Author.Tests.{le-leb, lt-leb, leb-true, leb-false}
use lib.ListN.{length, drop}
use lib.IntN.{ℤ}
use lib.Dec.{leb}
use Rattle.std.specs.Option.{ok_or}
use Rattle.forms.proofs.Tests.{never}
use Rattle.writing.specs.Patched.{bytes_for}
use Rattle.writing.specs.Outcome.{fit_of, answer_of, room_after, WrittenInto}
use Rattle.writing.specs.Inner.{Changed, changed, unfit, Held}
use Rattle.writing.specs.declared.Unwritten.{Unwritten}

-- ---- the answer, from what the code knows where it gives it

module _ {n most : ℕ} where
  pub fits : n ≤ most → Ok n ≡ fit_of n most
  unfolding fit_of
  fits h = rw (le-leb n most h)

  pub fits_not : most < n → Err Unwritten.NoRoom ≡ fit_of n most
  unfolding fit_of
  fits_not h = rw (lt-leb n most h)

module _ {s : List ℕ} {bytes : Option (List ℕ)} where
  pub unfit_answer : {c : Option (ℕ × ℕ)} → Changed s bytes c → {why : Unwritten} → ok_or c Unwritten.Unfit ≡ Err why → (most : ℕ) → Err why ≡ answer_of bytes most
  unfolding answer_of
  unfit_answer (changed is sum less) e most = never (cc)
  unfit_answer (unfit is) {why} e most = let q : why ≡ Unwritten.Unfit = cc in rw (is, q)

  module _ {gained lost : ℕ} where
    pub fit_answer : {c : Option (ℕ × ℕ)} → Changed s bytes c → ok_or c Unwritten.Unfit ≡ Ok (gained, lost) → (most : ℕ)
        → fit_of (length s - lost + gained) most ≡ answer_of bytes most
    unfolding answer_of
    fit_answer (changed {b = b} {gained = g} {lost = l} is sum less) e most =
        let same : ◌≡◌ {A = ℕ × ℕ} (g, l) (gained, lost) = cc in
        let p : g ≡ gained = ap (λ (p : ℕ × ℕ). p.0) same in
        let q : l ≡ lost = ap (λ (p : ℕ × ℕ). p.1) same in
        let long : length s - lost + gained ≡ length b = omega arith in
        rw (is, long)
    fit_answer (unfit is) e most = never (cc)

-- ---- what each answer tells a caller

-- the written trace stands at the start of the room; or the room is as it was, as it is too short, or as there is no such trace
pub data Tells (bytes : Option (List ℕ)) (room : List ℕ) : Result ℕ Unwritten → List ℕ → Type 0 where
  wrote : {word : List ℕ} → bytes ≡ Some word → length word ≤ length room → Tells bytes room (Ok (length word)) (word ++ drop (length word) room)
  no_room : {word : List ℕ} → bytes ≡ Some word → length room < length word → Tells bytes room (Err Unwritten.NoRoom) room
  misfit : bytes ≡ None → Tells bytes room (Err Unwritten.Unfit) room

pub tells : (bytes : Option (List ℕ)) (room : List ℕ) → Tells bytes room (answer_of bytes (length room)) (room_after bytes room)
unfolding answer_of fit_of room_after
tells None room = misfit refl
tells (Some word) room = go (leb (length word) (length room)) refl
  where
    go : (t : Bool) → leb (length word) (length room) ≡ t
        → Tells (Some word) room (cond t (Ok (length word)) (Err Unwritten.NoRoom)) (cond t (word ++ drop (length word) room) room)
    go true e = wrote refl (leb-true _ _ e)
    go false e = no_room refl (leb-false _ _ e)

pub told : {s : List ℕ} {store : List ℕ} {times : List ℤ} {room : List ℕ} {r : Result ℕ Unwritten} {after : List ℕ} → WrittenInto s store times room r after
    → Tells (bytes_for s store times) room r after
told w = rw (w.answer, w.holds) (tells _ _)

pub held : {bytes : Option (List ℕ)} {room : List ℕ} {r : Result ℕ Unwritten} {after : List ℕ} → Tells bytes room r after → {n : ℕ} → r ≡ Ok n → Held bytes (length room)
held (wrote {word = word} is h) e = record { word = word; is = is; fits = h }
held (no_room is h) e = never (cc)
held (misfit is) e = never (cc)

untouched : {bytes : Option (List ℕ)} {room : List ℕ} {r : Result ℕ Unwritten} {after : List ℕ} → Tells bytes room r after → ((n : ℕ) → r ≡ Ok n → ⊥) → after ≡ room
untouched (wrote is h) e = absurd (e _ refl)
untouched (no_room is h) e = refl
untouched (misfit is) e = refl

module _ {s store : List ℕ} {times : List ℤ} {room : List ℕ} {r : Result ℕ Unwritten} (is : r ≡ answer_of (bytes_for s store times) (length room)) where
  pub left : {why : Unwritten} → r ≡ Err why → WrittenInto s store times room (Err why) room
  left e = record { answer = sym e ∙ is; holds = sym (untouched (tells _ room) (λ n p. never (cc))) }

-- ---- one outcome

pub one_outcome : {s : List ℕ} {store : List ℕ} {times : List ℤ} {room : List ℕ} {r q : Result ℕ Unwritten} {a b : List ℕ}
    → WrittenInto s store times room r a → WrittenInto s store times room q b → (r ≡ q) × (a ≡ b)
one_outcome p q = (p.answer ∙ sym q.answer, p.holds ∙ sym q.holds)
