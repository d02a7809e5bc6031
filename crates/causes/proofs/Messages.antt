-- The messages of the records: each receive with the send that it belongs to, in file order of receives, and that is one list only.
use Rattle.std.specs.Prelude.{Some, Ok, is_some}
use Rattle.std.proofs.lemmas.Option.{same_Some}
use Prim.Native.Nat.{ℕ, zero, suc, ◌≤◌, ◌<◌}
use native.Mathlib.Omega.{arith}
use native.Mathlib.Decide.{dec_lt}
use mathlib.Core.Path.{◌≡◌, refl, sym, ap, ◌∙◌}
use mathlib.Core.List.{List}
use lib.ListN.{length}
use lib.Seq.{ext_get_or}
use Rattle.paper.specs.Matching.{send_for, send_of, matched_of, is_receive, matched_count, waits_of}
use Rattle.paper.specs.Messages.{messages_of}
use Rattle.paper.specs.declared.Entry.{Entry}
use Rattle.paper.specs.declared.Pair.{Pair}
use Rattle.paper.specs.declared.Role.{Role}
use Rattle.paper.specs.declared.Role.TheVariants.{Neither, Send, Receive}
use Rattle.matching.specs.Belongs.{role, processor}
use Rattle.matching.proofs.Count.{count_all, count_same}
use Rattle.matching.proofs.Belong.{belongs, belongs_back}
use Rattle.matching.proofs.Calls.{every_receive}
use Rattle.matching.proofs.Own.{own_send}
use Rattle.causes.specs.Listed.{message, Messages}
use Rattle.causes.proofs.Received.{Received, received}

pairs : {s t r u : ℕ} → s ≡ t → r ≡ u → ◌≡◌ {A = Pair} (record { send = s; receive = r }) (record { send = t; receive = u })
pairs e f = cc

module _ (es : List Entry) where
  -- ---- where all receives match

  module _ (h : matched_of es ≡ Ok tt) where
    -- the records that have a send are the receives
    sent_receives : (i : ℕ) → i < length es → is_some (send_of es i) ≡ is_receive (role es i)
    unfolding send_of send_for is_receive
    sent_receives i l = go (role es i) refl
      where
        go : (r : Role) → role es i ≡ r → is_some (send_for es i (processor es i) r) ≡ is_receive r
        go Neither e = refl
        go (Send m) e = refl
        go (Receive m) e = let (j, s, low) = every_receive es h i l m e in rw (rw e at s)

    module _ (list : List Pair) (r : Received (send_of es) (length es) list) where
      one_place : (k l : ℕ) → k < length list → l < length list → (message list k).receive ≡ (message list l).receive → k ≡ l
      one_place k l k< l< e =
          let not_before : ¬ (k < l) = λ less. omega (arith, r.order k l less l<) in
          let not_behind : ¬ (l < k) = λ less. omega (arith, r.order l k less k<) in
          omega arith

      are_messages : Messages es list
      unfolding matched_count
      are_messages =
          record {
            many = r.many ∙ count_same _ _ (length es) sent_receives ∙ sym (count_all (λ e. is_receive e.body.role) es);
            inside = r.inside;
            belongs = λ k l. belongs es _ _ (r.sends k l);
            all = λ i l m e. let (j, s, low) = every_receive es h i l m e in r.all i j l s;
            order = r.order;
            own = λ k l k< l< e.
                one_place k l k< l<
                (own_send es _ _ (message list l).send (r.inside k k<) (r.inside l l<) (r.sends k k< ∙ ap (λ (j : ℕ). Some j) e) (r.sends l l<));
          }

    pub messages_are : (share : ℕ) (table : List ℕ) → Messages es (messages_of (waits_of share table es))
    unfolding messages_of waits_of
    messages_are share table = are_messages _ (received (send_of es) (length es))

  -- ---- and that leaves one list

  module _ (a b : List Pair) (p : Messages es a) (q : Messages es b) where
    -- the receive that stands at place k of b has a place in a
    place : (k : ℕ) → k < length b → (m : ℕ) × (m < length a) × ((message a m).receive ≡ (message b k).receive)
    place k k< = let o = q.belongs k k< in p.all (message b k).receive (q.inside k k<) o.received o.receives

    rising : (k l : ℕ) → k ≤ l → l < length a → (message a k).receive ≤ (message a l).receive
    rising k l low l< = go (dec_lt k l)
      where
        go : Dec (k < l) → (message a k).receive ≤ (message a l).receive
        go (yes less) = omega (arith, p.order k l less l<)
        go (no less) = let z : k ≡ l = omega arith in rw z (omega arith)

    -- and no earlier one, for both rise
    no_earlier : (k : ℕ) → k < length b → (m : ℕ) → m < length a → (message a m).receive ≡ (message b k).receive → k ≤ m
    no_earlier zero k< m m< e = omega arith
    no_earlier (suc k) k< m m< e =
        let (n, n<, f) = place k (omega arith) in
        let low = no_earlier k (omega arith) n n< f in
        let past : ¬ (m ≤ n) = λ l. omega (arith, rising m n l n<, q.order k (suc k) (omega arith) k<) in
        omega arith

    no_later : (k : ℕ) → k < length b → (message a k).receive ≤ (message b k).receive
    no_later k k< = let (m, m<, e) = place k k< in omega (arith, rising k m (no_earlier k k< m m< e) m<)

  pub one_list : (a b : List Pair) → Messages es a → Messages es b → a ≡ b
  one_list a b p q = ext_get_or _ a b long same
    where
      long : length a ≡ length b
      long = p.many ∙ sym q.many

      same : (k : ℕ) → k < length a → message a k ≡ message b k
      same k k< =
          let k<' : k < length b = omega (arith, long) in
          let received : (message a k).receive ≡ (message b k).receive = omega (arith, no_later a b p q k k<', no_later b a q p k k<) in
          let sent = belongs_back es _ _ (p.belongs k k<) in
          pairs (same_Some _ _ (sym (rw received at sent) ∙ belongs_back es _ _ (q.belongs k k<'))) received
