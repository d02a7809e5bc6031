-- A word put into a room: each answer, from what the code knows where it gives it.
use Rattle.std.specs.Prelude.{Result, Some, None, Ok, Err}
use Prim.Native.Nat.{ℕ, ◌+◌, ◌/◌, ◌≤◌, ◌<◌}
use mathlib.Core.Path.{◌≡◌, refl, sym, ◌∙◌}
use mathlib.Core.List.{List, ◌++◌}
use mathlib.Core.Bool.{Bool, true, false}
use native.Mathlib.Omega.{arith}
use lib.ListN.{length, length-append}
use lib.Seq.{sets, sets-eq}
use lib.IntN.{ℤ, pos, nat_abs}
use lib.Signed.{lt_z}
use mir.Syntax.{w64}
use mir.Val.{SFits, to_z, of_z}
use mir.Facts.{to_z-of_z}
use borrow.Author.Tests.{le-leb, lt-leb}
use Rattle.paper.specs.Forms.{at_most, places_from, size_shown, time_shown}
use Rattle.shown.specs.Writes.{put_of, room_after, WordPut, time_put, TimePut, shown_length}
use Rattle.forms.specs.Sizes.{sign_shown}
use Rattle.forms.proofs.Tests.{held_is, refused_is}
use Rattle.forms.proofs.Shown.{length_size, places_high, by_sign}
use Rattle.shown.proofs.Stores.{sets_append}
use Rattle.shown.specs.declared.Unput.{Unput}

pub no_room : (room : List ℕ) (at : ℕ) (word : List ℕ) → length room < at + length word → WordPut room at word (Err Unput.NoRoom) room
unfolding put_of room_after
no_room room at word h = record { answer = rw (lt-leb (at + length word) (length room) h); holds = refl }

pub stored : (room after : List ℕ) (at : ℕ) (word : List ℕ) → at + length word ≤ length room → after ≡ sets room at word → WordPut room at word (Ok (at + length word)) after
unfolding put_of room_after
stored room after at word h e = record { answer = rw (le-leb (at + length word) (length room) h); holds = e ∙ sets-eq word room at h }

-- ---- a sign and a size

short_sign : (minus : Bool) → length (sign_shown minus) ≤ 1
unfolding sign_shown
short_sign true = omega arith
short_sign false = omega arith

module _ (minus : Bool) (size sign k : ℕ) (s : sign ≡ length (sign_shown minus)) (p : k ≡ places_from 8 (size / 1000000)) where
  pub length_signed : length (sign_shown minus ++ size_shown size) ≡ sign + k + 7
  length_signed = rw length-append (omega (arith, length_size size))

  pub signed_no_room : (room : List ℕ) (at : ℕ) → length room < at + (sign + k + 7) → WordPut room at (sign_shown minus ++ size_shown size) (Err Unput.NoRoom) room
  signed_no_room room at h = no_room room at (sign_shown minus ++ size_shown size) (rw length_signed h)

  pub signed_stored : (room : List ℕ) (at : ℕ) (a b : List ℕ) → at + (sign + k + 7) ≤ length room → a ≡ sets room at (sign_shown minus) → b ≡ sets a (at + sign) (size_shown size)
      → WordPut room at (sign_shown minus ++ size_shown size) (Ok (at + (sign + k + 7))) b
  signed_stored room at a b h p q =
      rw (← length_signed) (stored room b at (sign_shown minus ++ size_shown size) (rw length_signed h) (q ∙ rw (p, s) (sym (sets_append (sign_shown minus) (size_shown size) room at))))

-- how many bytes that is, counted
pub short_signed : (minus : Bool) (n sign k : ℕ) → sign ≡ length (sign_shown minus) → k ≡ places_from 8 n → sign + k ≤ 10
short_signed minus n sign k s p = omega (arith, short_sign minus, places_high 8 n)

-- ---- a time, read back from its bits: its sign is the code's test, and its size what the code found within the limit

module _ (room : List ℕ) (at : ℕ) {z : ℤ} (f : SFits w64 z) where
  pub time_stored : {r : Result ℕ Unput} {after : List ℕ} (m : ℕ) → Some m ≡ at_most 999999999999999 (Some (nat_abs (to_z w64 (of_z w64 z))))
      → WordPut room at (sign_shown (lt_z (to_z w64 (of_z w64 z)) (pos 0)) ++ size_shown m) r after → TimePut room at z r after
  unfolding time_put
  time_stored {r} {after} m e p =
      let h = held_is (rw (to_z-of_z f) at e) in
      let w : WordPut room at (time_shown z) r after = rw (by_sign z, ← h.0) (rw (to_z-of_z f) at p) in
      record { answer = rw (le-leb (nat_abs z) 999999999999999 h.1) w.answer; holds = w.holds }

  pub no_time : None ≡ at_most 999999999999999 (Some (nat_abs (to_z w64 (of_z w64 z)))) → TimePut room at z (Err Unput.NoTime) room
  unfolding time_put room_after
  no_time e = record { answer = rw (lt-leb (nat_abs z) 999999999999999 (refused_is (rw (to_z-of_z f) at e))); holds = refl }

-- ---- how long it is

module _ {z : ℤ} (f : SFits w64 z) where
  pub time_length : (m : ℕ) → Some m ≡ at_most 999999999999999 (Some (nat_abs (to_z w64 (of_z w64 z))))
      → length (sign_shown (lt_z (to_z w64 (of_z w64 z)) (pos 0)) ++ size_shown m) ≡ shown_length z
  unfolding shown_length
  time_length m e = let h = held_is (rw (to_z-of_z f) at e) in rw (to_z-of_z f, le-leb (nat_abs z) 999999999999999 h.1, h.0, ← by_sign z)

  pub no_length : None ≡ at_most 999999999999999 (Some (nat_abs (to_z w64 (of_z w64 z)))) → 0 ≡ shown_length z
  unfolding shown_length
  no_length e = rw (lt-leb (nat_abs z) 999999999999999 (refused_is (rw (to_z-of_z f) at e)))
