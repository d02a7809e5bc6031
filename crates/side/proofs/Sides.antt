-- What the side of a record says of it.
use Prim.Native.Nat.{ℕ}
use mathlib.Core.Path.{◌≡◌, refl, sym, ap, ◌∙◌}
use mathlib.Core.Bool.{Bool, false}
use mathlib.Core.List.{List}
use mathlib.Core.Logic.{◌⊎◌, inl, inr}
use lib.IntN.{ℤ}
use Rattle.paper.specs.Matching as Paper
use Rattle.paper.specs.Matching.{same_key, sends_under, receives_under}
use Rattle.paper.specs.declared.Message.{Message}
use Rattle.paper.specs.declared.Role.{Role}
use Rattle.store.specs.Layout.{entry_from}
use Rattle.side.specs.declared.Key.{Key}
use Rattle.side.specs.declared.Side.{Side}
use Rattle.side.specs.declared.Side.TheVariants.{Neither, Sends, Receives}
use Rattle.side.specs.Sides.{key_of, side_for, side_at, send_under, receive_under}

module _ (processor : ℕ) (m : Message) {t : ℤ} {r : Role} (e : t ≡ m.tag) where
  pub side_sends : r ≡ Role.Send m → Sends (record { sender = processor; receiver = m.peer; tag = t }) ≡ side_for processor r
  unfolding side_for
  side_sends f = rw (e, f)

  pub side_receives : r ≡ Role.Receive m
      → Receives (record { sender = m.peer; receiver = processor; tag = t }) ≡ side_for processor r
  unfolding side_for
  side_receives f = rw (e, f)

abbrev pub sends_by : Paper.Key → Side → Bool
sends_by key Neither = false
sends_by key (Sends k) = same_key key (key_of k)
sends_by key (Receives k) = false

abbrev pub receives_by : Paper.Key → Side → Bool
receives_by key Neither = false
receives_by key (Sends k) = false
receives_by key (Receives k) = same_key key (key_of k)

module _ (key : Paper.Key) (processor : ℕ) where
  sends_for : (r : Role) → sends_under key processor r ≡ sends_by key (side_for processor r)
  unfolding sends_under side_for
  sends_for Role.Neither = refl
  sends_for (Role.Send m) = refl
  sends_for (Role.Receive m) = refl

  receives_for : (r : Role) → receives_under key processor r ≡ receives_by key (side_for processor r)
  unfolding receives_under side_for
  receives_for Role.Neither = refl
  receives_for (Role.Send m) = refl
  receives_for (Role.Receive m) = refl

-- the record at a place, where its side is known
module _ (l : List ℕ) (key : Key) (i : ℕ) where
  pub send_by : {side x : Side} → side ≡ side_at l i → side ≡ x → sends_by (key_of key) x ≡ send_under l key i
  unfolding side_at
  send_by e f = ap (sends_by (key_of key)) (sym f ∙ e) ∙ sym (sends_for (key_of key) (entry_from l i).body.processor (entry_from l i).body.role)

  pub receive_by : {side x : Side} → side ≡ side_at l i → side ≡ x → receives_by (key_of key) x ≡ receive_under l key i
  unfolding side_at
  receive_by e f =
      ap (receives_by (key_of key)) (sym f ∙ e) ∙ sym (receives_for (key_of key) (entry_from l i).body.processor (entry_from l i).body.role)

  pub not_send_by : {side : Side} → side ≡ side_at l i → (side ≡ Neither) ⊎ ((k : Key) × side ≡ Receives k) → false ≡ send_under l key i
  not_send_by e (inl f) = send_by e f
  not_send_by e (inr (k, f)) = send_by e f

  pub not_receive_by : {side : Side} → side ≡ side_at l i → (side ≡ Neither) ⊎ ((k : Key) × side ≡ Sends k) → false ≡ receive_under l key i
  not_receive_by e (inl f) = receive_by e f
  not_receive_by e (inr (k, f)) = receive_by e f
