-- Each statement leaves one answer.
use Prim.Native.Nat.{ℕ}
use mathlib.Core.Path.{◌≡◌, sym, ◌∙◌}
use mathlib.Core.List.{List}
use mathlib.Core.Bool.{Bool}
use Rattle.side.specs.declared.Key.{Key}
use Rattle.side.specs.declared.Side.{Side}
use Rattle.side.specs.Sides.{side_at, Bucket, send_under, receive_under}

pub one_side : (store : List ℕ) (i : ℕ) (r q : Side) → r ≡ side_at store i → q ≡ side_at store i → r ≡ q
one_side store i r q e f = e ∙ sym f

pub one_send : (store : List ℕ) (i : ℕ) (key : Key) (r q : Bool) → r ≡ send_under store key i → q ≡ send_under store key i → r ≡ q
one_send store i key r q e f = e ∙ sym f

pub one_receive : (store : List ℕ) (i : ℕ) (key : Key) (r q : Bool) → r ≡ receive_under store key i → q ≡ receive_under store key i → r ≡ q
one_receive store i key r q e f = e ∙ sym f

pub one_bucket : (key : Key) (r q : ℕ) → Bucket key r → Bucket key q → r ≡ q
one_bucket key r q e f = e.is ∙ sym f.is
