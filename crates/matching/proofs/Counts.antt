-- "matched messages", "sends not received": where all receives match, the first are the sends that some receive belongs to, the
-- others are the sends that none does, and the two add up to the sends.
use Rattle.std.specs.Prelude.{Option, Some, None, Ok, is_some, unwrap_or}
use Rattle.std.proofs.lemmas.Option.{same_Some}
use Prim.Native.Nat.{ℕ, zero, suc, ◌+◌, ◌<◌}
use native.Mathlib.Omega.{arith}
use native.Mathlib.Decide.{dec_lt}
use mathlib.Core.Path.{◌≡◌, refl, sym, ap, ◌∙◌}
use mathlib.Core.Bool.{Bool, true, false, cond, not, ◌&&◌, false≢true}
use mathlib.Core.List.{List}
use borrow.Author.Tests.{eqb-true, eq-eqb}
use lib.Dec.{eqb}
use lib.ListN.{length}
use Rattle.paper.specs.Matching.{count_if, send_of, matched_of, is_send, is_receive, matched_count, unreceived_count}
use Rattle.paper.specs.declared.Message.{Message}
use Rattle.paper.specs.declared.Role.{Role}
use Rattle.paper.specs.declared.Role.TheVariants.{Neither, Send, Receive}
use Rattle.paper.specs.declared.Entry.{Entry}
use Rattle.matching.proofs.Count.{count, bit, count_all}
use Rattle.matching.proofs.Keys.{both}
use Rattle.matching.proofs.Belong.{role_at, belongs}
use Rattle.matching.proofs.Calls.{every_receive}
use Rattle.matching.proofs.Own.{own_send}
use Rattle.matching.proofs.Into.{Into, at_most_lem}

-- ---- a search below n

unfoldable pub found : (ℕ → Bool) → ℕ → Option ℕ
found p zero = None
found p (suc n) = cond (p n) (Some n) (found p n)

found_one : (p : ℕ → Bool) (n i : ℕ) → i < n → p i ≡ true → is_some (found p n) ≡ true
unfolding found
found_one p zero i h e = absurd (omega arith)
found_one p (suc n) i h e = go (p n) refl (λ l. found_one p n i l e)
  where
    go : (t : Bool) → p n ≡ t → (i < n → is_some (found p n) ≡ true) → is_some (cond t (Some n) (found p n)) ≡ true
    go true f rest = refl
    go false f rest = earlier (dec_lt i n)
      where
        earlier : Dec (i < n) → is_some (found p n) ≡ true
        earlier (yes l) = rest l
        earlier (no l) = let z : i ≡ n = omega arith in absurd (false≢true (sym f ∙ rw z at e))

found_is : (p : ℕ → Bool) (n : ℕ) → is_some (found p n) ≡ true
    → (unwrap_or (found p n) 0 < n) × (p (unwrap_or (found p n) 0) ≡ true)
unfolding found
found_is p zero h = absurd (false≢true h)
found_is p (suc n) h = go (p n) refl (λ g. found_is p n g) h
  where
    go : (t : Bool) → p n ≡ t
        → (is_some (found p n) ≡ true → (unwrap_or (found p n) 0 < n) × (p (unwrap_or (found p n) 0) ≡ true))
        → is_some (cond t (Some n) (found p n)) ≡ true
        → (unwrap_or (cond t (Some n) (found p n)) 0 < suc n) × (p (unwrap_or (cond t (Some n) (found p n)) 0) ≡ true)
    go true f rest g = (omega arith, f)
    go false f rest g = let (a, b) = rest g in (omega arith, b)

-- ---- the sends that are received

-- the option is j
unfoldable pub is_place : ℕ → Option ℕ → Bool
is_place j None = false
is_place j (Some k) = eqb k j

place_is : (j : ℕ) (o : Option ℕ) → is_place j o ≡ true → o ≡ Some j
unfolding is_place
place_is j None h = absurd (false≢true h)
place_is j (Some k) h = ap (λ (x : ℕ). Some x) (eqb-true k j h)

is_its_place : (j : ℕ) (o : Option ℕ) → o ≡ Some j → is_place j o ≡ true
unfolding is_place
is_its_place j o e = rw e (eq-eqb j j refl)

-- some receive belongs to send j
unfoldable pub received : List Entry → ℕ → Bool
received es j = is_some (found (λ i. is_place j (send_of es i)) (length es))

abbrev pub sends : List Entry → ℕ → Bool
sends es j = is_send (role_at es j)

abbrev pub receives : List Entry → ℕ → Bool
receives es i = is_receive (role_at es i)

split : (p q : ℕ → Bool) (n : ℕ) → count p n ≡ count (λ j. p j && q j) n + count (λ j. p j && not (q j)) n
unfolding count bit
split p q zero = refl
split p q (suc n) = omega (arith, split p q n, bits (p n) (q n))
  where
    bits : (s t : Bool) → bit s ≡ bit (s && t) + bit (s && not t)
    bits true true = refl
    bits true false = refl
    bits false t = refl

-- ---- matched and unreceived

is_receive_role : (r : Role) → is_receive r ≡ true → (m : Message) × (r ≡ Receive m)
unfolding is_receive
is_receive_role Neither h = absurd (false≢true h)
is_receive_role (Send m) h = absurd (false≢true h)
is_receive_role (Receive m) h = (m, refl)

is_send_role : (r : Role) (m : Message) → r ≡ Send m → is_send r ≡ true
unfolding is_send
is_send_role r m e = rw e

receive_role : (r : Role) (m : Message) → r ≡ Receive m → is_receive r ≡ true
unfolding is_receive
receive_role r m e = rw e

module _ (es : List Entry) (h : matched_of es ≡ Ok tt) where
  sent_from : ℕ → ℕ
  sent_from i = unwrap_or (send_of es i) 0

  a_send : (i : ℕ) → i < length es → is_receive (role_at es i) ≡ true → send_of es i ≡ Some (sent_from i)
  unfolding sent_from
  a_send i l e =
      let (m, r) = is_receive_role (role_at es i) e in
      let (j, s, same) = every_receive es h i l m r in
      rw s

  -- a receive that belongs to send j
  receiver_of : ℕ → ℕ
  receiver_of j = unwrap_or (found (λ i. is_place j (send_of es i)) (length es)) 0

  belongs_to : (j : ℕ) → received es j ≡ true → (receiver_of j < length es) × (send_of es (receiver_of j) ≡ Some j)
  unfolding received receiver_of
  belongs_to j e =
      let (a, b) = found_is (λ i. is_place j (send_of es i)) (length es) e in
      (a, place_is j (send_of es (unwrap_or (found (λ i. is_place j (send_of es i)) (length es)) 0)) b)

  -- each receive has a send of its own, which is then received
  to_sends : Into (receives es) (λ j. sends es j && received es j) sent_from (length es) (length es)
  unfolding received
  to_sends =
      record {
        lands = λ i l e.
            let s = a_send i l e in
            let b = belongs es i (sent_from i) s in
            let sent : sends es (sent_from i) ≡ true = is_send_role (role_at es (sent_from i)) b.sent b.sends in
            let taken : received es (sent_from i) ≡ true =
            found_one (λ k. is_place (sent_from i) (send_of es k)) (length es) i l (is_its_place (sent_from i) (send_of es i) s) in
            (b.within, rw (sent, taken));
        apart = λ i k l g d e s. own_send es i k (sent_from i) l g (a_send i l d) (a_send k g e ∙ ap (λ (j : ℕ). Some j) (sym s));
      }

  -- each send that is received has a receive of its own
  to_receives : Into (λ j. sends es j && received es j) (receives es) receiver_of (length es) (length es)
  to_receives =
      record {
        lands = λ j l e.
            let (a, s) = belongs_to j (both (sends es j) (received es j) e).1 in
            let b = belongs es (receiver_of j) j s in
            (a, receive_role (role_at es (receiver_of j)) b.received b.receives);
        apart = λ j k l g d e s.
            let (a, x) = belongs_to j (both (sends es j) (received es j) d).1 in
            let (b, y) = belongs_to k (both (sends es k) (received es k) e).1 in
            same_Some j k (sym x ∙ ap (send_of es) s ∙ y);
      }

  -- "matched messages": the sends that are received
  pub matched_is : matched_count es ≡ count (λ j. sends es j && received es j) (length es)
  unfolding matched_count
  matched_is =
      rw (count_all (λ e. is_receive e.body.role) es)
      (omega (arith, at_most_lem (receives es) sent_from (length es) (length es) _ to_sends, at_most_lem _ receiver_of (length es) (length es) (receives es) to_receives))

  -- the two add up to the sends
  pub counts_add : matched_count es + unreceived_count es ≡ count_if (λ e. is_send e.body.role) es
  unfolding unreceived_count
  counts_add = omega (arith, matched_is, count_all (λ e. is_send e.body.role) es, split (sends es) (received es) (length es))

  -- "sends not received"
  pub unreceived_is : unreceived_count es ≡ count (λ j. sends es j && not (received es j)) (length es)
  unreceived_is = omega (arith, counts_add, matched_is, count_all (λ e. is_send e.body.role) es, split (sends es) (received es) (length es))
