-- The messages by the places of the sends are the messages of the trace.
use Rattle.std.specs.Prelude.{Option, Some, None, unwrap_or}
use mathlib.Core.Path.{◌≡◌, refl}
use Prim.Native.Nat.{ℕ, zero, suc, ◌<◌}
use native.Mathlib.Omega.{arith}
use mathlib.Core.List.{List}
use lib.ListN.{length}
use borrow.Author.Tests.{lt-ltb, le-ltb}
use Rattle.paper.specs.Matching.{send_of, waits_of}
use Rattle.paper.specs.Messages.{messages_to, messages_of}
use Rattle.paper.specs.declared.Entry.{Entry}
use Rattle.store.proofs.Listed.{length_listed, listed_at}
use Rattle.chains.specs.Places.{places_of}
use Rattle.chains.proofs.Places.{length_places}
use Rattle.waits.proofs.Closed.{send_within}
use Rattle.mail.specs.Mail.{send_at, send_in}

-- messages by two senders that agree on the first n records
messages_same : (f g : ℕ → Option ℕ) (n : ℕ) → ((i : ℕ) → i < n → f i ≡ g i) → messages_to f n ≡ messages_to g n
unfolding messages_to
messages_same f g zero same = refl
messages_same f g (suc n) same = rw (messages_same f g n (λ i l. same i (omega (arith, l))), same n (omega arith))

module _ (es : List Entry) where
  sent : (x : Option ℕ) → ((j : ℕ) → x ≡ Some j → j < length es) → send_at (length es) (unwrap_or x (length es)) ≡ x
  unfolding send_at
  sent None within = rw (le-ltb (length es) (length es) (omega arith))
  sent (Some j) within = rw (lt-ltb j (length es) (within j refl))

  same_send : (i : ℕ) → i < length es → send_in (places_of es) i ≡ send_of es i
  unfolding places_of send_in
  same_send i l =
      rw (length_listed (length es) (λ k. unwrap_or (send_of es k) (length es)), listed_at (length es) (λ k. unwrap_or (send_of es k) (length es)) i 0 l)
      (sent (send_of es i) (λ j e. send_within es i j e))

  pub same_messages : (share : ℕ) (latencies : List ℕ)
      → messages_to (send_in (places_of es)) (length (places_of es)) ≡ messages_of (waits_of share latencies es)
  unfolding messages_of waits_of
  same_messages share latencies = rw (length_places es) (messages_same (send_in (places_of es)) (send_of es) (length es) same_send)
