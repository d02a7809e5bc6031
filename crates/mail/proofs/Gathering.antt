-- The loop over the records: what holds before each of them.
use Rattle.std.specs.Prelude.{Option, Some, None}
use mathlib.Core.Path.{◌≡◌, refl, sym, ap, ◌∙◌}
use Prim.Native.Nat.{ℕ, ◌+◌, ◌/◌, ◌<◌, ◌≤◌}
use native.Mathlib.Nat.{le_antisymm}
use native.Mathlib.Numerals.{add-one}
use native.Mathlib.Omega.{arith}
use mathlib.Core.List.{List, [], ◌∷◌, ◌++◌, append-nil}
use lib.ListN.{length, get_or, length-append, get_or-append}
use lib.Seq.{get_or-append_seam}
use borrow.Author.Count.{below_more}
use Rattle.paper.specs.Messages.{message_at, messages_to}
use Rattle.paper.specs.declared.Pair.{Pair}
use Rattle.mail.specs.Mail.{no_pair, pair_at, send_at, send_in, put, Noted, Holds}
use Rattle.mail.proofs.Pairs.{put_length, put_here, put_before}

-- ---- one message more

module _ {items : List Pair} {count : ℕ} {numbers : List ℕ} (holds : Holds items count numbers) (room : count < length numbers / 2) where
  module _ (s r : ℕ) where
    abbrev more : List Pair
    more = items ++ record { send = s; receive = r } ∷ []

    put_more : Holds more (count + 1) (put numbers count s r)
    put_more =
        record {
          many = length-append items _ ∙ ap (λ (n : ℕ). n + 1) holds.many;
          each =
              below_more (λ k. pair_at (put numbers count s r) k ≡ get_or more k no_pair) count
              (λ k l. put_before numbers count s r k l ∙ holds.each k l ∙ sym (get_or-append items _ no_pair k (rw holds.many l)))
              (put_here numbers count s r room ∙ rw (← holds.many) (sym (get_or-append_seam items _ [] no_pair)));
        }

  noted : (x : Option ℕ) (i : ℕ) {r : ℕ} {numbers' : List ℕ} → Noted x i count numbers r numbers'
      → Holds (items ++ message_at i x) r numbers' × (length numbers' ≡ length numbers) × (r ≤ count + 1)
  unfolding Noted message_at
  noted None i (e, f) = rw (e, f, append-nil items) (holds, refl, omega arith)
  noted (Some s) i (e, f) = rw (e, f) (put_more s i, put_length numbers count s i, omega arith)

-- ---- the loop

module _ (sends numbers₀ : List ℕ) where
  abbrev items : ℕ → List Pair
  items i = messages_to (send_in sends) i

  pub record Going (i count : ℕ) (numbers : List ℕ) : Type 0 where
    pub fits : length sends ≤ length numbers₀ / 2
    pub size : length numbers ≡ length numbers₀
    pub inside : i ≤ length sends
    pub few : count ≤ i
    pub holds : Holds (items i) count numbers

  pub starts : length sends ≤ length numbers₀ / 2 → Going 0 0 numbers₀
  unfolding messages_to
  starts fits =
      record {
        fits = fits;
        size = refl;
        inside = omega arith;
        few = omega arith;
        holds = record { many = refl; each = λ k l. absurd (omega (arith, l)) };
      }

  module _ {i count : ℕ} {numbers : List ℕ} (going : Going i count numbers) where
    -- a message of this record has room
    pub room : i < length sends → count < length numbers / 2
    room l = rw going.size (let f = going.fits in let g = going.few in omega (arith, l, f, g))

    pub turn : i < length sends → {r : ℕ} {numbers' : List ℕ} → Noted (send_at (length sends) (get_or sends i 0)) i count numbers r numbers'
        → Going (i + 1) r numbers'
    unfolding messages_to send_in
    turn l by =
        let (holds, size, few) = noted going.holds (room l) (send_at (length sends) (get_or sends i 0)) i by in
        record {
          fits = going.fits;
          size = size ∙ going.size;
          inside = omega (arith, l);
          few = (let g = going.few in omega (arith, few, g));
          holds = rw (add-one i) holds;
        }

    pub ends : length sends ≤ i → Holds (items (length sends)) count numbers
    ends l = rw (le_antisymm l going.inside) going.holds
