-- The pass from the first record to the last that places the sends: one turn.
use Rattle.std.specs.Prelude.{Option, None, unwrap_or}
use Prim.Native.Nat.{ℕ, ◌+◌, ◌<◌}
use native.Mathlib.Omega.{arith}
use native.Mathlib.Decide.{dec_lt}
use mathlib.Core.Path.{◌≡◌, refl, sym, ap, ◌∙◌}
use mathlib.Core.Bool.{Bool, true, false, true≢false}
use mathlib.Core.List.{List}
use borrow.Author.Tests.{eqb-true, eq-eqb}
use lib.Dec.{eqb}
use lib.ListN.{length, get_or, set, length-set}
use lib.Seq.{get_or-set_same, get_or-set_other}
use Rattle.paper.specs.Matching.{send_of}
use Rattle.paper.specs.declared.Entry.{Entry}
use Rattle.store.specs.Layout.{entries_in}
use Rattle.store.proofs.Laws.{length_entries}
use Rattle.side.specs.declared.Key.{Key}
use Rattle.side.specs.declared.Side.{Side}
use Rattle.side.specs.declared.Side.TheVariants.{Neither, Sends, Receives}
use Rattle.side.specs.Sides.{key_of, side_at, receives_in, bucket_of}
use Rattle.side.proofs.Keys.{bucket_low}
use Rattle.side.proofs.Buckets.{no_receive_in}
use Rattle.side.proofs.Sends.{send_by}
use Rattle.chains.specs.Chains.{Filled, Last, receive_in, Linked, Chained, Placed, Placing, Ready, send_under_at}
use Rattle.chains.proofs.Walks.{last_here, last_later}
use Rattle.chains.proofs.Found.{send_side, same_behind}
use Rattle.chains.proofs.Chain.{receive_sends}

-- no receive is seen yet
pub place_begins : (l : List ℕ) (n : ℕ) (sends link heads seen : List ℕ) → length sends ≡ n → Chained l n link heads 0
    → Filled seen 0
    → Placing l n sends link heads seen 0
place_begins l n sends link heads seen size h e =
    record {
      size = size;
      chained = h;
      buckets = e.buckets;
      last = λ b g.
          rw (e.each b g)
          (record { upto = omega arith; none = λ k a c. absurd (omega arith); here = λ k z. absurd (omega arith) });
      backed = λ j b a. absurd (omega arith);
      placed = λ j a. absurd (omega arith);
    }

-- what holds below i and of i holds below i + 1, after a store at i
pub after_set : {A : Type 0} (d : A) (P : ℕ → A → Type 0) (xs : List A) (i : ℕ) (v : A) → i < length xs → ((j : ℕ) → j < i → P j (get_or xs j d))
    → P i v → (j : ℕ) → j < i + 1 → P j (get_or (set xs i v) j d)
after_set d P xs i v l below at j h = go (dec_lt j i)
  where
    go : Dec (j < i) → P j (get_or (set xs i v) j d)
    go (yes g) = rw (get_or-set_other xs i j v d (λ z. absurd (omega arith))) (below j g)
    go (no g) = let z : j ≡ i = omega arith in rw (z, get_or-set_same xs i v d l) at

module _ (l : List ℕ) (n : ℕ) (sends link heads seen : List ℕ) (i : ℕ) (m : i < n) (h : Placing l n sends link heads seen i) where
  placed_more : (v : ℕ) → v ≡ unwrap_or (send_of (entries_in l n) i) n → Placed l n (set sends i v) (i + 1)
  placed_more v e = after_set 0 (λ j x. x ≡ unwrap_or (send_of (entries_in l n) j) n) sends i v (omega (arith, h.size)) h.placed e

  -- a record that is no receive
  place_none : send_of (entries_in l n) i ≡ None → ((b : ℕ) → receive_in l b i ≡ false)
      → Placing l n (set sends i n) link heads seen (i + 1)
  place_none e out =
      record {
        size = simp length-set h.size;
        chained = h.chained;
        buckets = h.buckets;
        last = λ b g. last_later (receive_in l b) i (get_or seen b 0) (out b) (h.last b g);
        backed = λ j b a f. older j b a f (dec_lt j i);
        placed = placed_more n (sym (ap (λ (o : Option ℕ). unwrap_or o n) e));
      }
    where
      older : (j b : ℕ) → j < i + 1 → receive_in l b j ≡ true → Dec (j < i) → Last (receive_in l b) j (get_or link j 0)
      older j b a f (yes d) = h.backed j b d f
      older j b a f (no d) =
          let z : j ≡ i = omega arith in
          absurd (true≢false (sym f ∙ rw z (out b)))

  -- a receive under the key
  module _ (k : Key) (e : side_at l i ≡ Receives k) where
    abbrev b : ℕ
    b = bucket_of k

    is_in : (c : ℕ) → receive_in l c i ≡ eqb b c
    is_in c = ap (receives_in c) e

    here : receive_in l b i ≡ true
    here = is_in b ∙ eq-eqb b b refl

    before : Last (receive_in l b) i (get_or seen b 0)
    before = h.last b (bucket_low k)

    -- a search goes by what the chains say
    pub search_ready : Ready l sends link b (get_or heads b 0) (get_or seen b 0)
    search_ready =
        let n_is : length link ≡ n = h.chained.size in
        record {
          few = rw n_is h.chained.few;
          size = h.size ∙ sym n_is;
          first = rw n_is (h.chained.head b (bucket_low k));
          linked = rw n_is h.chained.linked;
          backward = record {
            backed = λ j c a. h.backed j c (omega (arith, before.upto));
            upto = omega (arith, before.upto);
            here = before.here;
          };
          placed = rw n_is (λ j a. h.placed j (omega (arith, before.upto)));
        }

    -- what the search finds is the send of the receive
    found_send : (s : ℕ) → s ≡ send_under_at (entries_in l n) (key_of k) (get_or seen b 0) → s ≡ unwrap_or (send_of (entries_in l n) i) n
    unfolding send_under_at
    found_send s f =
        f
        ∙ sym (same_behind l n k (get_or seen b 0) i before.upto (omega arith) (λ j a c. no_receive_in l k j (before.none j a c)))
        ∙ rw (length_entries l n) (sym (ap (λ (o : Option ℕ). unwrap_or o n) (send_side l n i m ∙ ap (send_by (entries_in l n) i) e)))

    linked_still : Linked l n (set link i (get_or seen b 0)) 0
    linked_still j c a g f =
        rw (get_or-set_other link i j (get_or seen b 0) 0 (λ z. true≢false (sym f ∙ rw z (receive_sends l i refl e c))))
        (h.chained.linked j c a g f)

    last_of_lem : (c : ℕ) → c < 1024 → (t : Bool) → eqb b c ≡ t → Last (receive_in l c) (i + 1) (get_or (set seen b (i + 1)) c 0)
    last_of_lem c g true f =
        let z : b ≡ c = eqb-true b c f in
        rw (← z, get_or-set_same seen b (i + 1) 0 (omega (arith, h.buckets, bucket_low k))) (last_here (receive_in l b) i here)
    last_of_lem c g false f =
        rw (get_or-set_other seen b c (i + 1) 0 (λ z. true≢false (sym (eq-eqb b c (sym z)) ∙ f)))
        (last_later (receive_in l c) i (get_or seen c 0) (is_in c ∙ f) (h.last c g))

    back_of : (c : ℕ) → receive_in l c i ≡ true → Last (receive_in l c) i (get_or seen b 0)
    back_of c f = let z : b ≡ c = eqb-true b c (sym (is_in c) ∙ f) in rw (← z) before

    place_receive : (s : ℕ) → s ≡ send_under_at (entries_in l n) (key_of k) (get_or seen b 0)
        → Placing l n (set sends i s) (set link i (get_or seen b 0)) heads (set seen b (i + 1)) (i + 1)
    place_receive s f =
        record {
          size = simp length-set h.size;
          chained = record {
            few = h.chained.few;
            size = simp length-set h.chained.size;
            buckets = h.chained.buckets;
            head = h.chained.head;
            linked = linked_still;
          };
          buckets = simp length-set h.buckets;
          last = λ c g. last_of_lem c g (eqb b c) refl;
          backed = λ j c a. after_set 0 (λ j x. receive_in l c j ≡ true → Last (receive_in l c) j x) link i (get_or seen b 0) (omega (arith, h.chained.size)) (λ j g. h.backed j c g) (back_of c) j a;
          placed = placed_more s (found_send s f);
        }

  -- ---- by the record's side

  abbrev es : List Entry
  es = entries_in l n

  module _ {side : Side} (e : side ≡ side_at l i) where
    by_side : (x : Side) → side ≡ x → send_of es i ≡ send_by es i x
    by_side x f = send_side l n i m ∙ ap (send_by es i) (sym e ∙ f)

    place_neither : side ≡ Neither → Placing l n (set sends i n) link heads seen (i + 1)
    place_neither f = place_none (by_side Neither f) (λ b. ap (receives_in b) (sym e ∙ f))

    place_send : {k : Key} → side ≡ Sends k → Placing l n (set sends i n) link heads seen (i + 1)
    place_send {k} f = place_none (by_side (Sends k) f) (λ b. ap (receives_in b) (sym e ∙ f))

    -- no receive
    pub place_other : ((k : Key) → side ≡ Receives k → ⊥) → Placing l n (set sends i n) link heads seen (i + 1)
    place_other none = go side refl
      where
        go : (x : Side) → side ≡ x → Placing l n (set sends i n) link heads seen (i + 1)
        go Neither f = place_neither f
        go (Sends k) f = place_send f
        go (Receives k) f = absurd (none k f)

    -- a receive under a key of bucket b, behind which the search found s
    pub place_found : {k : Key} → side ≡ Receives k → {b : ℕ} → b ≡ bucket_of k
        → {s : ℕ} → s ≡ send_under_at (entries_in l (length link)) (key_of k) (get_or seen b 0)
        → Placing l n (set sends i s) (set link i (get_or seen b 0)) heads (set seen b (i + 1)) (i + 1)
    place_found {k} f p q = rw p (place_receive k (sym e ∙ f) _ (rw (h.chained.size, p) at q))
