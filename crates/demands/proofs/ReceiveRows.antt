-- Rows 13 and 14: what a receive calls for is what the row says of it.
use Rattle.std.specs.Prelude.{Option, Some, None}
use Prim.Native.Nat.{ℕ}
use mathlib.Core.Path.{◌≡◌, refl, sym, ap, ◌∙◌}
use mathlib.Core.Logic.{◌⊎◌, inl, inr}
use mathlib.Core.Bool.{Bool, true, false, cond}
use mathlib.Core.List.{List}
use lib.Dec.{leb}
use borrow.Author.Tests.{leb-false, lt-leb}
use Rattle.paper.specs.Matching.{send_of, length_sent, length_at, call_of, call_for}
use Rattle.paper.specs.declared.Entry.{Entry}
use Rattle.paper.specs.declared.Fault.{Fault}
use Rattle.paper.specs.declared.Message.{Message}
use Rattle.paper.specs.declared.Role.{Role}
use Rattle.matching.specs.Belongs.{role, Belongs}
use Rattle.matching.proofs.Belong.{belongs, belongs_back}
use Rattle.matching.proofs.Calls.{call_at}
use Rattle.forms.proofs.Tests.{never}
use Rattle.demands.specs.Rows.{NoSend, LongReceive}

-- the row of a receive that calls for this; none calls for anything else
pub data RowAt (es : List Entry) (k : ℕ) : Fault → Type 0 where
  send_row : NoSend es k → RowAt es k Fault.NoSend
  length_row : LongReceive es k → RowAt es k Fault.LongReceive

module _ (es : List Entry) (k : ℕ) where
  -- ---- to the row

  sent_length : (j : ℕ) (b : Belongs es k j) → length_at es j ≡ b.sent.length
  unfolding length_sent
  sent_length j b = ap length_sent b.sends

  one_message : (m : Message) → role es k ≡ Role.Receive m → (j : ℕ) (b : Belongs es k j) → m ≡ b.received
  one_message m r j b = let e = sym r ∙ b.receives in cc

  none_belongs : send_of es k ≡ None → (j : ℕ) → ¬ Belongs es k j
  none_belongs e j b = let f = belongs_back es k j b in never (cc)

  receive_row : (m : Message) → role es k ≡ Role.Receive m → (o : Option ℕ) → send_of es k ≡ o → (fault : Fault) → call_of es m.length o ≡ Some fault
      → RowAt es k fault
  unfolding call_of
  receive_row m r None s fault e = let z : Fault.NoSend ≡ fault = cc in rw (← z) (send_row (m, r, none_belongs s))
  receive_row m r (Some j) s fault e = go (leb m.length (length_at es j)) refl e
    where
      go : (t : Bool) → leb m.length (length_at es j) ≡ t → cond t None (Some Fault.LongReceive) ≡ Some fault → RowAt es k fault
      go true t e = never (cc)
      go false t e =
          let z : Fault.LongReceive ≡ fault = cc in
          let b = belongs es k j s in
          let same = one_message m r j b in
          rw (← z) (length_row (j, b, rw (same, sent_length j b) at (leb-false m.length (length_at es j) t)))

  pub call_row : (fault : Fault) → call_at es k ≡ Some fault → RowAt es k fault
  unfolding call_for
  call_row fault e = go (role es k) refl e
    where
      go : (r : Role) → role es k ≡ r → call_for es k r ≡ Some fault → RowAt es k fault
      go Role.Neither p e = never (cc)
      go (Role.Send m) p e = never (cc)
      go (Role.Receive m) p e = receive_row m p _ refl fault e

  -- ---- and back

  pub no_send_calls : NoSend es k → call_at es k ≡ Some Fault.NoSend
  unfolding call_for call_of
  no_send_calls (m, r, alone) = rw r (go (send_of es k) refl)
    where
      go : (o : Option ℕ) → send_of es k ≡ o → call_of es m.length o ≡ Some Fault.NoSend
      go None e = refl
      go (Some j) e = absurd (alone j (belongs es k j e))

  pub long_receive_calls : LongReceive es k → call_at es k ≡ Some Fault.LongReceive
  unfolding call_for call_of
  long_receive_calls (j, b, more) =
      rw (b.receives, belongs_back es k j b, lt-leb b.received.length (length_at es j) (rw (sent_length j b) more))

  pub nothing_called : ¬ (NoSend es k ⊎ LongReceive es k) → call_at es k ≡ None
  nothing_called h = go (call_at es k) refl
    where
      some_call : {fault : Fault} → RowAt es k fault → NoSend es k ⊎ LongReceive es k
      some_call (send_row r) = inl r
      some_call (length_row r) = inr r

      go : (o : Option Fault) → call_at es k ≡ o → o ≡ None
      go None e = refl
      go (Some fault) e = absurd (h (some_call (call_row fault e)))

  pub called_not : call_at es k ≡ None → ¬ (NoSend es k ⊎ LongReceive es k)
  called_not e (inl n) = let f = no_send_calls n in never (cc)
  called_not e (inr o) = let f = long_receive_calls o in never (cc)
