-- The seventh change request, "messages, each with its send's place and its receive's place, in file order of receives", as text.
use Rattle.std.specs.Prelude.{ℕ, ◌/◌, ◌≡◌, Bool, true, false, ◌&&◌, List, [], ◌∷◌, ◌++◌, length, ℤ, pos, eqb, ltb}
use Rattle.io.specs.Counts.{IsPrefixLen}
use Rattle.paper.specs.Text.{bytes_of}
use Rattle.paper.specs.Clock.{time_at}
use Rattle.paper.specs.Matching.{entry_at}
use Rattle.paper.specs.Messages.{messages_to}
use Rattle.paper.specs.declared.Entry.{Entry}
use Rattle.paper.specs.declared.Message.{Message}
use Rattle.paper.specs.declared.Pair.{Pair}
use Rattle.paper.specs.declared.Role.{Role}
use Rattle.paper.specs.declared.Role.TheVariants.{Neither, Send, Receive}
use Rattle.store.specs.Layout.{entries_in}
use Rattle.mail.specs.Mail.{send_in}
use Rattle.report.specs.Put.{Put}
use Rattle.lines.specs.Lines.{message_shown}
use Rattle.lines.specs.Records.{stamped_at}

-- ---- the text

-- what a record that sends or receives says of its message
unfoldable pub message_in : Role → Message
message_in Neither = record { length = 0; tag = pos 0; peer = 0 }
message_in (Send m) = m
message_in (Receive m) = m

abbrev pub message_of : List Entry → ℕ → Message
message_of es i = message_in (entry_at es i).body.role

unfoldable pub line_of : List Entry → (ℕ → ℤ) → Pair → List ℕ
line_of es x p =
    message_shown
    (stamped_at es x p.send)
    (stamped_at es x p.receive)
    (message_of es p.receive).length
    (message_of es p.send).length
    (message_of es p.receive).tag

unfoldable pub lines_of : List Entry → (ℕ → ℤ) → List Pair → List ℕ
lines_of es x [] = []
lines_of es x (p ∷ ps) = line_of es x p ++ lines_of es x ps

-- silence is no answer
unfoldable pub deliveries_of : List Entry → (ℕ → ℤ) → List Pair → List ℕ
deliveries_of es x [] = bytes_of "no messages\n"
deliveries_of es x (p ∷ ps) = lines_of es x (p ∷ ps)

-- ---- by the places of the sends, as many as there are records; a number past the last place is none (`send_in`, mail/specs/Mail.antt)

unfoldable pub pairs_in : List ℕ → List Pair
pairs_in sends = messages_to (send_in sends) (length sends)

-- ---- the statement of `put_messages`

-- as many times as places, and a room for a line of each record and of one more
unfoldable pub fitting : (sends times room : ℕ) → Bool
fitting sends times room = eqb times sends && ltb sends (room / 256)

pub record DeliveredInto (store sends : List ℕ) (times : List ℤ) (room : List ℕ) (end : ℕ) (after : List ℕ) : Type 0 where
  pub there : fitting (length sends) (length times) (length room) ≡ true
      → Put room 0 (deliveries_of (entries_in store (length times)) (time_at times) (pairs_in sends)) end after
  pub misfit : fitting (length sends) (length times) (length room) ≡ false → (end ≡ 0) × (after ≡ room)
  pub counts : IsPrefixLen end after
