-- The search finds the send: behind the receives before place `from`, the next send under the key is the one that a receive
-- there belongs to.
use Rattle.std.specs.Prelude.{Option, Some, None, unwrap_or}
use Prim.Native.Nat.{ℕ, zero, suc, ◌+◌, ◌≤◌, ◌<◌}
use native.Mathlib.Omega.{arith}
use native.Mathlib.Decide.{dec_lt}
use native.Mathlib.Numerals.{add-one}
use mathlib.Core.Path.{◌≡◌, refl, sym, ap, ◌∙◌}
use mathlib.Core.Bool.{Bool, true, false, cond}
use mathlib.Core.List.{List}
use borrow.Author.Tests.{lt-ltb, le-ltb}
use lib.ListN.{length, get_or, take}
use lib.Dec.{ltb}
use Rattle.paper.specs.Matching.{is_send_of, is_receive_of, count_if, send_place, entry_at, send_of}
use Rattle.paper.specs.declared.Entry.{Entry}
use Rattle.matching.proofs.Count.{count, count_yes, count_still, count_take}
use Rattle.matching.proofs.Places.{Answers, send_at, place_answers, no_more, none_left}
use Rattle.store.specs.Layout.{entry_from, entries_in}
use Rattle.store.proofs.Laws.{length_entries, entry_in}
use Rattle.side.specs.declared.Key.{Key}
use Rattle.side.specs.Sides.{key_of, side_at, bucket_of, send_under, receive_under}
use Rattle.side.proofs.Buckets.{no_send_in, send_in_lem}
use Rattle.side.proofs.Sends.{send_by, send_for_side, receive_send}
use Rattle.chains.specs.Chains.{First, Last, send_in, Forward, Ready, start_from, send_under_at}

-- ---- first and k-th

-- nothing on the way to the first of a chain is under the key
first_through : (p q : ℕ → Bool) (n i j s : ℕ) → ((k : ℕ) → q k ≡ false → p k ≡ false) → First q n i j → First p n j s
    → First p n i s
first_through p q n i j s hidden f g =
    record { from = omega (arith, f.from, g.from); upto = g.upto; none = λ k a b. go k a b (dec_lt k j); here = g.here }
  where
    go : (k : ℕ) → i ≤ k → k < s → Dec (k < j) → p k ≡ false
    go k a b (yes l) = hidden k (f.none k a l)
    go k a b (no l) = g.none k (omega arith) b

-- the first from a place on is the one with as many before it as before that place
first_place : (p : ℕ → Bool) (n k i s : ℕ) (o : Option ℕ) → Answers p n k o → count p i ≡ k → First p n i s → s ≡ unwrap_or o n
first_place p n k i s o a e f = go (dec_lt s n)
  where
    still : count p s ≡ k
    still = count_still p i s f.from f.none ∙ e

    go : Dec (s < n) → s ≡ unwrap_or o n
    go (yes l) = sym (ap (λ (o : Option ℕ). unwrap_or o n) (a.whole s (record { within = l; passes = f.here l; rank = still })))
    go (no l) =
        let z : s ≡ n = omega (arith, f.upto) in
        let all : count p n ≡ k = rw z at still in
        z ∙ sym (ap (λ (o : Option ℕ). unwrap_or o n) (no_more p n k o a (omega arith)))

-- none is left behind where the one before was none
none_behind : (p : ℕ → Bool) (n k : ℕ) (o r : Option ℕ) → Answers p n k o → Answers p n (suc k) r → o ≡ None → n ≡ unwrap_or r n
none_behind p n k o r a b e = sym (ap (λ (o : Option ℕ). unwrap_or o n) (no_more p n (suc k) r b (omega (arith, none_left p n k o a e))))

-- ---- the entries of a store

module _ (l : List ℕ) (n : ℕ) where
  -- the send of an entry is by its side
  pub send_side : (i : ℕ) → i < n → send_of (entries_in l n) i ≡ send_by (entries_in l n) i (side_at l i)
  unfolding send_of side_at
  send_side i h =
      rw (entry_in l n i h) (send_for_side (entries_in l n) i (entry_from l i).body.processor (entry_from l i).body.role)

module _ (l : List ℕ) (n : ℕ) (key : Key) where
  -- the sends and the receives under the key
  abbrev sent : ℕ → Bool
  sent = send_at (key_of key) (entries_in l n)

  abbrev received : ℕ → Bool
  received i = is_receive_of (key_of key) (entry_at (entries_in l n) i)

  sent_is : (i : ℕ) → i < n → send_under l key i ≡ sent i
  sent_is i h = ap (is_send_of (key_of key)) (sym (entry_in l n i h))

  received_is : (i : ℕ) → i < n → receive_under l key i ≡ received i
  received_is i h = ap (is_receive_of (key_of key)) (sym (entry_in l n i h))

  -- how many receives under the key stand before place i
  ranked : (i : ℕ) → i ≤ n → count_if (is_receive_of (key_of key)) (take i (entries_in l n)) ≡ count received i
  ranked i h = count_take (is_receive_of (key_of key)) (entries_in l n) i (rw length_entries h)

  -- behind so many receives, the send is the one with so many before it
  under_at : (i k : ℕ) → i ≤ n → count received i ≡ k
      → send_under_at (entries_in l n) (key_of key) i ≡ unwrap_or (send_place (key_of key) k (entries_in l n)) n
  unfolding send_under_at
  under_at i k h e = rw (length_entries l n, ranked i h, e)

  answers : (k : ℕ) → Answers sent n k (send_place (key_of key) k (entries_in l n))
  answers k = rw (length_entries l n) at (place_answers (key_of key) k (entries_in l n))

  -- no receive under the key between two places: what a receive at either belongs to is the same
  pub same_behind : (i j : ℕ) → i ≤ j → j ≤ n → ((k : ℕ) → i ≤ k → k < j → receive_under l key k ≡ false)
      → send_under_at (entries_in l n) (key_of key) j ≡ send_under_at (entries_in l n) (key_of key) i
  same_behind i j h g quiet =
      let still : count received j ≡ count received i = count_still received i j h (λ k a b. sym (received_is k (omega arith)) ∙ quiet k a b) in
      under_at j (count received i) g still ∙ sym (under_at i (count received i) (omega arith) refl)

-- ---- the three steps together

module _ (l : List ℕ) (sends link : List ℕ) (key : Key) (head from : ℕ) (h : Ready l sends link (bucket_of key) head from) where
  abbrev n : ℕ
  n = length link

  abbrev es : List Entry
  es = entries_in l n

  upto : from ≤ n
  upto = h.backward.upto

  -- a walk may start here, and finds the send
  record Starts (start : ℕ) : Type 0 where
    high : start ≤ n
    on : start < n → send_in l (bucket_of key) start ≡ true
    finds : (s : ℕ) → First (send_under l key) n start s → s ≡ send_under_at es (key_of key) from

  -- the first send under the key from a place on, by way of the chain
  first_sent : (i j s : ℕ) → First (send_in l (bucket_of key)) n i j → First (send_under l key) n j s → First (sent l n key) n i s
  first_sent i j s f g =
      let u = first_through (send_under l key) (send_in l (bucket_of key)) n i j s (λ k. no_send_in l key k) f g in
      record {
        from = u.from;
        upto = u.upto;
        none = λ k a b. sym (sent_is l n key k (omega (arith, u.upto))) ∙ u.none k a b;
        here = λ m. sym (sent_is l n key s m) ∙ u.here m;
      }

  -- a start with k sends under the key before it, where as many receives stand before `from`
  starts_at : (k i start : ℕ) → count (received l n key) from ≡ k → count (sent l n key) i ≡ k
      → First (send_in l (bucket_of key)) n i start → Starts start
  starts_at k i start r c f =
      record {
        high = f.upto;
        on = f.here;
        finds = λ s g. first_place (sent l n key) n k i s _ (answers l n key k) c (first_sent i start s f g) ∙ sym (under_at l n key from k upto r);
      }

  starts_none : (k : ℕ) → count (received l n key) from ≡ suc k → send_place (key_of key) k es ≡ None → Starts n
  starts_none k r e =
      record {
        high = omega arith;
        on = λ m. absurd (omega arith);
        finds = λ s g.
            let z : s ≡ n = omega (arith, g.from, g.upto) in
            z ∙ none_behind (sent l n key) n k _ _ (answers l n key k) (answers l n key (suc k)) e ∙ sym (under_at l n key from (suc k) upto r);
      }

  -- where no receive under the key stands before: from the head on
  starts_head : Last (receive_under l key) from 0 → Starts head
  unfolding count
  starts_head f =
      starts_at 0 0 head
      (count_still (received l n key) 0 from (omega arith) (λ k a b. sym (received_is l n key k (omega (arith, upto))) ∙ f.none k a b))
      refl
      h.first

  -- where receive q is the last under the key: behind its send
  module _ (q : ℕ) (f : Last (receive_under l key) from (suc q)) where
    low : q < n
    low = omega (arith, upto, f.upto)

    rank_behind : count (received l n key) from ≡ suc (count (received l n key) q)
    rank_behind =
        count_still (received l n key) (suc q) from f.upto (λ k a b. sym (received_is l n key k (omega (arith, upto))) ∙ f.none k a b)
        ∙ count_yes (received l n key) q (sym (received_is l n key q low) ∙ f.here q refl)

    its_place : get_or sends q 0 ≡ unwrap_or (send_place (key_of key) (count (received l n key) q) es) n
    its_place =
        h.placed q f.upto
        ∙ ap (λ (o : Option ℕ). unwrap_or o n) (send_side l n q low ∙ receive_send l es key q (f.here q refl) ∙ ap (λ (k : ℕ). send_place (key_of key) k es) (ranked l n key q (omega (arith, low))))

    starts_behind : (o : Option ℕ) → send_place (key_of key) (count (received l n key) q) es ≡ o
        → Starts (cond (ltb (unwrap_or o n) n) (get_or link (unwrap_or o n) 0) n)
    starts_behind None e = rw (le-ltb n n (omega arith)) (starts_none (count (received l n key) q) rank_behind e)
    starts_behind (Some j) e =
        let a = (answers l n key (count (received l n key) q)).sound j e in
        let c : count (sent l n key) (j + 1) ≡ suc (count (received l n key) q) = rw add-one (count_yes (sent l n key) j a.passes ∙ ap suc a.rank) in
        let f : First (send_in l (bucket_of key)) n (j + 1) (get_or link j 0) =
        h.linked j (bucket_of key) (omega arith) a.within (send_in_lem l key j (sent_is l n key j a.within ∙ a.passes)) in
        rw (lt-ltb j n a.within) (starts_at (suc (count (received l n key) q)) (j + 1) (get_or link j 0) rank_behind c f)

  starts : (prior : ℕ) → Last (receive_under l key) from prior → Starts (start_from sends link head prior)
  starts zero f = starts_head f
  starts (suc q) f = rw (its_place q f) (starts_behind q f _ refl)

  pub may_start : (prior : ℕ) → Last (receive_under l key) from prior
      → Forward l link (bucket_of key) (start_from sends link head prior)
  may_start prior f = let s = starts prior f in record { linked = h.linked; upto = s.high; here = s.on }

  pub found : (prior s : ℕ) → Last (receive_under l key) from prior → First (send_under l key) n (start_from sends link head prior) s
      → s ≡ send_under_at es (key_of key) from
  found prior s f g = (starts prior f).finds s g
