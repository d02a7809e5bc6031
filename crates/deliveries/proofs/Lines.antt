-- The line of one message, put behind others.
use Prim.Native.Nat.{ℕ, ◌+◌, ◌≤◌, ◌<◌}
use mathlib.Core.Path.{◌≡◌}
use mathlib.Core.List.{List, append-nil}
use native.Mathlib.Omega.{arith}
use lib.ListN.{length, take, get_or}
use lib.IntN.{ℤ}
use borrow.Author.Tests.{lt-ltb, le-ltb}
use Rattle.paper.specs.Clock.{time_at}
use Rattle.paper.specs.Messages.{message_at}
use Rattle.paper.specs.declared.Entry.{Entry}
use Rattle.paper.specs.declared.Message.{Message}
use Rattle.store.specs.Layout.{entries_in, entry_from}
use Rattle.store.proofs.Laws.{entry_in}
use Rattle.mail.specs.Mail.{send_at, send_in}
use Rattle.report.specs.Put.{Short}
use Rattle.lines.specs.Adding.{Added}
use Rattle.lines.specs.Lines.{LineInto, message_shown}
use Rattle.lines.specs.Records.{stamped_at}
use Rattle.lines.specs.declared.Stamped.{Stamped}
use Rattle.lines.proofs.Adding.{nothing_put, line_added}
use Rattle.deliveries.specs.Deliveries.{message_in, line_of, lines_of}

-- ---- one line

-- by what the store and the times hold of both records
module _ (store : List ℕ) (times : List ℤ) (send receive : ℕ) (low : (send < length times) × (receive < length times)) where
  abbrev es : List Entry
  es = entries_in store (length times)

  pub line_told : {from to : Stamped} {sent received : Message} {y : ℤ} {room after : List ℕ} {end : ℕ}
      → from ≡ stamped_at es (time_at times) send
      → to ≡ stamped_at es (time_at times) receive
      → sent ≡ message_in (entry_from store send).body.role
      → received ≡ message_in (entry_from store receive).body.role
      → y ≡ received.tag
      → LineInto (message_shown from to received.length sent.length y) room end after
      → LineInto (line_of es (time_at times) (record { send = send; receive = receive })) room end after
  unfolding line_of
  line_told f t s r e into =
      rw (entry_in store (length times) send low.0, entry_in store (length times) receive low.1, ← s, ← r, ← f, ← t, ← e) into

-- ---- by the place of the send

module _ (es : List Entry) (x : ℕ → ℤ) (sends : List ℕ) (i : ℕ) {n j : ℕ} (all : n ≡ length sends) (is : j ≡ get_or sends i 0) where
  pub no_send : n ≤ j → (room : List ℕ) (at : ℕ) → at ≤ length room → Short 256 room at (lines_of es x (message_at i (send_in sends i))) at room
  unfolding send_in send_at message_at lines_of
  no_send h room at fits = rw (← is, le-ltb j (length sends) (omega arith)) (nothing_put 256 room at fits)

  pub its_send : {room : List ℕ} {at end : ℕ} {after blank line : List ℕ} {k : ℕ} → j < n
      → LineInto (line_of es x (record { send = j; receive = i })) blank k line
      → length blank ≡ 256
      → at + 256 ≤ length room
      → Added room at (take k line) end after
      → Short 256 room at (lines_of es x (message_at i (send_in sends i))) end after
  unfolding send_in send_at message_at lines_of
  its_send h into long wide added = rw (← is, lt-ltb j (length sends) (omega arith), append-nil) (line_added into long wide added)
