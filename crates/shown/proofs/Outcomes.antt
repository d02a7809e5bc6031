-- What the statements of the public functions come to for a caller: any two outcomes that a statement allows are the same, and
-- what each answer of `write_time` says.
use Rattle.std.specs.Prelude.{Result, Ok, Err}
use Prim.Native.Nat.{ℕ, ◌+◌, ◌≤◌, ◌<◌}
use mathlib.Core.Path.{◌≡◌, refl, sym, ◌∙◌}
use mathlib.Core.List.{List, ◌++◌}
use mathlib.Core.Bool.{Bool, true, false, cond}
use native.Mathlib.Omega.{arith}
use lib.ListN.{length, take, drop, length-append, length-drop}
use lib.Seq.{length-take-le, take_at, drop_at}
use lib.IntN.{ℤ, nat_abs}
use lib.Dec.{leb}
use borrow.Author.Tests.{leb-true, leb-false}
use Rattle.paper.specs.Forms.{time_shown}
use Rattle.shown.specs.Writes.{put_of, room_after, time_put, TimePut, shown_length}
use Rattle.shown.specs.declared.Unput.{Unput}

-- ---- one outcome

pub one_time_put : {room : List ℕ} {at : ℕ} {z : ℤ} {r q : Result ℕ Unput} {a b : List ℕ} → TimePut room at z r a → TimePut room at z q b → (r ≡ q) × (a ≡ b)
one_time_put p q =
    let e = p.answer ∙ sym q.answer in
    (e, p.holds ∙ rw e (sym q.holds))

pub one_length : (z : ℤ) (r q : ℕ) → r ≡ shown_length z → q ≡ shown_length z → r ≡ q
one_length z r q e f = e ∙ sym f

-- ---- the answers of `write_time`

-- where the time ends at `end`, it fits, and the room differs in its bytes alone
pub record Stored (room : List ℕ) (at : ℕ) (z : ℤ) (end : ℕ) (after : List ℕ) : Type 0 where
  pub ends : end ≡ at + length (time_shown z)
  pub fits : end ≤ length room
  pub size : nat_abs z ≤ 999999999999999
  pub holds : after ≡ take at room ++ time_shown z ++ drop end room

-- the answer says how the two tests went
at_chosen : (t u : Bool) (k : ℕ) {end : ℕ} → Ok end ≡ cond t (cond u (Ok k) (Err Unput.NoRoom)) (Err Unput.NoTime) → (t ≡ true) × (u ≡ true) × (end ≡ k)
at_chosen true true k e = (refl, refl, cc)
at_chosen true false k e = (cc, cc, cc)
at_chosen false u k e = (cc, cc, cc)

room_chosen : (t u : Bool) (k : ℕ) → (Err Unput.NoRoom) ≡ cond t (cond u (Ok k) (Err Unput.NoRoom)) (Err Unput.NoTime) → (t ≡ true) × (u ≡ false)
room_chosen true true k e = (cc, cc)
room_chosen true false k e = (refl, refl)
room_chosen false u k e = (cc, cc)

time_chosen : (t u : Bool) (k : ℕ) → (Err Unput.NoTime) ≡ cond t (cond u (Ok k) (Err Unput.NoRoom)) (Err Unput.NoTime) → t ≡ false
time_chosen true true k e = cc
time_chosen true false k e = cc
time_chosen false u k e = refl

module _ (room : List ℕ) (at : ℕ) (z : ℤ) where
  abbrev in_time : Bool
  in_time = leb (nat_abs z) 999999999999999

  abbrev in_room : Bool
  in_room = leb (at + length (time_shown z)) (length room)

  pub put_at : {r : Result ℕ Unput} {after : List ℕ} {end : ℕ} → TimePut room at z r after → r ≡ Ok end → Stored room at z end after
  unfolding time_put put_of room_after
  put_at p e =
      let c = at_chosen in_time in_room (at + length (time_shown z)) (sym e ∙ p.answer) in
      record {
        ends = c.2;
        fits = rw c.2 (leb-true (at + length (time_shown z)) (length room) c.1);
        size = leb-true (nat_abs z) 999999999999999 c.0;
        holds = rw e at p.holds;
      }

  pub put_no_room : {r : Result ℕ Unput} {after : List ℕ} → TimePut room at z r after → r ≡ (Err Unput.NoRoom) → (length room < at + length (time_shown z)) × (after ≡ room)
  unfolding time_put put_of room_after
  put_no_room p e = (leb-false (at + length (time_shown z)) (length room) (room_chosen in_time in_room (at + length (time_shown z)) (sym e ∙ p.answer)).1, rw e at p.holds)

  pub put_no_time : {r : Result ℕ Unput} {after : List ℕ} → TimePut room at z r after → r ≡ (Err Unput.NoTime) → (999999999999999 < nat_abs z) × (after ≡ room)
  unfolding time_put put_of room_after
  put_no_time p e = (leb-false (nat_abs z) 999999999999999 (time_chosen in_time in_room (at + length (time_shown z)) (sym e ∙ p.answer)), rw e at p.holds)

-- ---- one write behind another: what stands before the end, and what stands behind it

module _ {room : List ℕ} {at : ℕ} {z : ℤ} {end : ℕ} {after : List ℕ} (s : Stored room at z end after) where
  front_length : length (take at room ++ time_shown z) ≡ end
  front_length = rw (length-append, length-take-le at room (omega (arith, s.fits, s.ends))) (sym s.ends)

  pub front : take end after ≡ take at room ++ time_shown z
  front = rw s.holds (take_at (take at room ++ time_shown z) (drop end room) end front_length)

  pub behind : drop end after ≡ drop end room
  behind = rw s.holds (drop_at (take at room ++ time_shown z) (drop end room) end front_length)

  pub as_long : length after ≡ length room
  as_long = rw (s.holds, length-append, front_length, length-drop) (omega (arith, s.fits))
