-- Keys that are told the same are the same; what it is to be a send or a receive under a key.
use Prim.Native.Nat.{ℕ}
use mathlib.Core.Path.{◌≡◌, refl, ap}
use mathlib.Core.Bool.{Bool, true, false, ◌&&◌, false≢true}
use borrow.Author.Tests.{eqb-true, eq-eqb}
use lib.Dec.{eqb}
use lib.IntN.{ℤ, pos, negsuc}
use Rattle.paper.specs.Tests.{eq_z}
use Rattle.paper.specs.Matching.{Key, same_key, sends_under}
use Rattle.paper.specs.declared.Message.{Message}
use Rattle.paper.specs.declared.Role.{Role}
use Rattle.paper.specs.declared.Role.TheVariants.{Neither, Send, Receive}

pub both : (x y : Bool) → (x && y) ≡ true → (x ≡ true) × (y ≡ true)
both true y h = (refl, h)
both false y h = absurd (false≢true h)

pub eq_z_true : (a b : ℤ) → eq_z a b ≡ true → a ≡ b
eq_z_true (pos a) (pos b) h = ap pos (eqb-true a b h)
eq_z_true (pos a) (negsuc b) h = absurd (false≢true h)
eq_z_true (negsuc a) (pos b) h = absurd (false≢true h)
eq_z_true (negsuc a) (negsuc b) h = ap negsuc (eqb-true a b h)

pub eq_z_same : (a : ℤ) → eq_z a a ≡ true
eq_z_same (pos a) = eq-eqb a a refl
eq_z_same (negsuc a) = eq-eqb a a refl

keys : {p p' q q' : ℕ} {t t' : ℤ} → p ≡ p' → q ≡ q' → t ≡ t'
    → ◌≡◌ {A = Key} (record { sender = p; receiver = q; tag = t }) (record { sender = p'; receiver = q'; tag = t' })
keys a b c = cc

pub same_key_lem : (a b : Key) → same_key a b ≡ true → a ≡ b
same_key_lem a b h =
    let (ends, tag) = both (eqb a.sender b.sender && eqb a.receiver b.receiver) (eq_z a.tag b.tag) h in
    let (from, to) = both (eqb a.sender b.sender) (eqb a.receiver b.receiver) ends in
    let s : a.sender ≡ b.sender = eqb-true _ _ from in
    let r : a.receiver ≡ b.receiver = eqb-true _ _ to in
    let t : a.tag ≡ b.tag = eq_z_true _ _ tag in
    keys s r t

pub key_same : (a : Key) → same_key a a ≡ true
key_same a = rw (eq-eqb a.sender a.sender refl, eq-eqb a.receiver a.receiver refl) (eq_z_same a.tag)

-- "from p to q with type t", of a send and of a receive
abbrev pub send_key : ℕ → Message → Key
send_key processor m = record { sender = processor; receiver = m.peer; tag = m.tag }

abbrev pub receive_key : ℕ → Message → Key
receive_key processor m = record { sender = m.peer; receiver = processor; tag = m.tag }

pub sends_under_lem : (k : Key) (processor : ℕ) (r : Role) → sends_under k processor r ≡ true
    → (m : Message) × (r ≡ Send m) × (k ≡ send_key processor m)
unfolding sends_under
sends_under_lem k processor Neither h = absurd (false≢true h)
sends_under_lem k processor (Send m) h = (m, refl, same_key_lem k (send_key processor m) h)
sends_under_lem k processor (Receive m) h = absurd (false≢true h)
