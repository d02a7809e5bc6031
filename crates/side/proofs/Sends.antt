-- The send of an entry, by its side.
use Rattle.std.specs.Prelude.{Option, None}
use Prim.Native.Nat.{ℕ}
use mathlib.Core.Path.{◌≡◌, refl, ◌∙◌}
use mathlib.Core.Bool.{true, false≢true}
use mathlib.Core.List.{List}
use lib.ListN.{take}
use Rattle.paper.specs.Matching.{count_if, is_receive_of, send_place, send_for}
use Rattle.paper.specs.declared.Entry.{Entry}
use Rattle.paper.specs.declared.Role.{Role}
use Rattle.matching.proofs.Keys.{same_key_lem}
use Rattle.side.specs.declared.Key.{Key}
use Rattle.side.specs.declared.Side.{Side}
use Rattle.side.specs.declared.Side.TheVariants.{Neither, Sends, Receives}
use Rattle.side.specs.Sides.{key_of, side_for, side_at, receive_under}
use Rattle.side.proofs.Sides.{receives_by, receive_by}

abbrev pub send_by : List Entry → ℕ → Side → Option ℕ
send_by es i Neither = None
send_by es i (Sends k) = None
send_by es i (Receives k) = send_place (key_of k) (count_if (is_receive_of (key_of k)) (take i es)) es

pub send_for_side : (es : List Entry) (i processor : ℕ) (r : Role) → send_for es i processor r ≡ send_by es i (side_for processor r)
unfolding send_for side_for
send_for_side es i processor Role.Neither = refl
send_for_side es i processor (Role.Send m) = refl
send_for_side es i processor (Role.Receive m) = refl

-- a receive under the key of another has the same send as one there would
receives_same : (es : List Entry) (key : Key) (i : ℕ) (side : Side) → receives_by (key_of key) side ≡ true
    → send_by es i side ≡ send_place (key_of key) (count_if (is_receive_of (key_of key)) (take i es)) es
receives_same es key i Neither h = absurd (false≢true h)
receives_same es key i (Sends k) h = absurd (false≢true h)
receives_same es key i (Receives k) h = rw (same_key_lem (key_of key) (key_of k) h)

pub receive_send : (l : List ℕ) (es : List Entry) (key : Key) (i : ℕ) → receive_under l key i ≡ true
    → send_by es i (side_at l i) ≡ send_place (key_of key) (count_if (is_receive_of (key_of key)) (take i es)) es
receive_send l es key i h = receives_same es key i (side_at l i) (receive_by l key i {side = side_at l i} refl refl ∙ h)
