-- "The k-th receive at processor q from p with type t belongs to the k-th send from p to q with type t, both counted in file
-- order": what the send of a receive is.
use Rattle.std.specs.Prelude.{Some}
use Rattle.std.proofs.lemmas.Option.{none-some}
use Prim.Native.Nat.{ℕ}
use native.Mathlib.Omega.{arith}
use mathlib.Core.Path.{◌≡◌, refl, sym, ap, ◌∙◌}
use mathlib.Core.Bool.{true}
use mathlib.Core.List.{List}
use lib.ListN.{length, take}
use Rattle.paper.specs.Matching.{Key, count_if, sends_under, is_send_of, is_receive_of, send_place, send_for, send_of}
use Rattle.paper.specs.declared.Message.{Message}
use Rattle.paper.specs.declared.Role.{Role}
use Rattle.paper.specs.declared.Role.TheVariants.{Neither, Send, Receive}
use Rattle.paper.specs.declared.Entry.{Entry}
use Rattle.matching.specs.Belongs.{key_of, Belongs}
use Rattle.matching.proofs.Count.{count_take}
use Rattle.matching.proofs.Places.{Kth, send_at, place_answers}
use Rattle.matching.proofs.Keys.{send_key, receive_key, key_same, sends_under_lem}
-- by names that no processor or role at hand bears
pub use Rattle.matching.specs.Belongs.{processor as processor_at, role as role_at}

-- what only a receive has
pub is_receive : (es : List Entry) (i processor : ℕ) (r : Role) (j : ℕ) → send_for es i processor r ≡ Some j
    → (m : Message) × (r ≡ Receive m)
    × (send_place (receive_key processor m) (count_if (is_receive_of (receive_key processor m)) (take i es)) es ≡ Some j)
unfolding send_for
is_receive es i processor Neither j h = absurd (none-some j h)
is_receive es i processor (Send m) j h = absurd (none-some j h)
is_receive es i processor (Receive m) j h = (m, refl, h)

-- record i received m, and record j is the send under m's key that as many sends under it precede as receives precede record i
module _ (es : List Entry) (i j : ℕ) (m : Message) where
  abbrev key : Key
  key = receive_key (processor_at es i) m

  kth_belongs : role_at es i ≡ Receive m → Kth (send_at key es) (length es) (count_if (is_receive_of key) (take i es)) j
      → (s : Message) → role_at es j ≡ Send s → key ≡ send_key (processor_at es j) s → Belongs es i j
  kth_belongs receives kth s sends told =
      let from : m.peer ≡ processor_at es j = ap (λ (k : Key). k.sender) told in
      let tag : m.tag ≡ s.tag = ap (λ (k : Key). k.tag) told in
      record {
        within = kth.within;
        received = m;
        sent = s;
        receives = receives;
        sends = sends;
        from = from;
        to = sym (ap (λ (k : Key). k.receiver) told);
        tag = tag;
        counted = rw (← from, ← tag) (sym kth.rank ∙ sym (count_take (is_send_of key) es j (omega (arith, kth.within))));
      }

pub belongs : (es : List Entry) (i j : ℕ) → send_of es i ≡ Some j → Belongs es i j
unfolding send_of
belongs es i j h =
    let (m, receives, place) = is_receive es i (processor_at es i) (role_at es i) j h in
    let kth = (place_answers (receive_key (processor_at es i) m) _ es).sound j place in
    let (s, sends, told) = sends_under_lem (receive_key (processor_at es i) m) (processor_at es j) (role_at es j) kth.passes in
    kth_belongs es i j m receives kth s sends told

-- and back: what it belongs to is its send
module _ (es : List Entry) (i j : ℕ) (b : Belongs es i j) where
  one_key : key_of es j i b.sent ≡ receive_key (processor_at es i) b.received
  one_key = rw (b.from, b.tag)

  is_send : send_at (key_of es j i b.sent) es j ≡ true
  unfolding sends_under
  is_send = rw (b.sends, b.to) (key_same (key_of es j i b.sent))

  is_kth : Kth (send_at (key_of es j i b.sent) es) (length es) (count_if (is_receive_of (key_of es j i b.sent)) (take i es)) j
  is_kth =
      record {
        within = b.within;
        passes = is_send;
        rank = sym (count_take (is_send_of (key_of es j i b.sent)) es j (omega (arith, b.within))) ∙ sym b.counted;
      }

  pub belongs_back : send_of es i ≡ Some j
  unfolding send_of send_for
  belongs_back = rw b.receives ((place_answers (receive_key (processor_at es i) b.received) _ es).whole j (rw one_key at is_kth))
