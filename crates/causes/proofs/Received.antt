-- "in file order of receives": the messages that the first records receive, listed one record after the other.
use Rattle.std.specs.Prelude.{Option, Some, None, is_some}
use Rattle.std.proofs.lemmas.Option.{none-some}
use Prim.Native.Nat.{ℕ, zero, suc, ◌+◌, ◌<◌}
use native.Mathlib.Omega.{arith}
use native.Mathlib.Decide.{dec_lt}
use mathlib.Core.Path.{◌≡◌, refl, sym, ◌∙◌}
use mathlib.Core.List.{List, [], ◌∷◌, ◌++◌, append-nil}
use lib.ListN.{length, length-append, get_or-append}
use lib.Seq.{get_or-append_seam}
use borrow.Author.Count.{below_more}
use Rattle.paper.specs.Messages.{message_at, messages_to}
use Rattle.paper.specs.declared.Pair.{Pair}
use Rattle.matching.proofs.Count.{count, bit}
use Rattle.causes.specs.Listed.{message}

-- these are the messages that the first n records receive, each from its send
pub record Received (send : ℕ → Option ℕ) (n : ℕ) (list : List Pair) : Type 0 where
  pub many : length list ≡ count (λ i. is_some (send i)) n
  pub inside : (k : ℕ) → k < length list → (message list k).receive < n
  pub sends : (k : ℕ) → k < length list → send (message list k).receive ≡ Some (message list k).send
  pub all : (i j : ℕ) → i < n → send i ≡ Some j → (k : ℕ) × (k < length list) × ((message list k).receive ≡ i)
  pub order : (k l : ℕ) → k < l → l < length list → (message list k).receive < (message list l).receive

module _ (send : ℕ → Option ℕ) (n : ℕ) (list : List Pair) (r : Received send n list) where
  -- the next record receives nothing
  no_more : send n ≡ None → Received send (suc n) list
  unfolding count bit
  no_more e =
      record {
        many = rw e (omega (arith, r.many));
        inside = λ k l. omega (arith, r.inside k l);
        sends = r.sends;
        all = λ i j l s. r.all i j (below i j l s) s;
        order = r.order;
      }
    where
      below : (i j : ℕ) → i < suc n → send i ≡ Some j → i < n
      below i j l s = let other : ¬ (i ≡ n) = λ z. none-some j (sym e ∙ rw z at s) in omega arith

  -- the next record receives a message from record j
  module _ (j : ℕ) (e : send n ≡ Some j) where
    abbrev longer : List Pair
    longer = list ++ (record { send = j; receive = n } ∷ [])

    long : length longer ≡ length list + 1
    long = length-append list _

    as_before : (k : ℕ) → k < length list → message longer k ≡ message list k
    as_before k l = get_or-append list _ _ k l

    at_end : message longer (length list) ≡ record { send = j; receive = n }
    at_end = get_or-append_seam list _ [] _

    -- what holds of the messages before and of the new one holds of all
    each : (P : ℕ → Pair → Type 0) → ((k : ℕ) → k < length list → P k (message list k)) → P (length list) (record { send = j; receive = n })
        → (k : ℕ) → k < length longer → P k (message longer k)
    each P before new k l =
        below_more (λ k. P k (message longer k)) (length list) (λ k l. rw (as_before k l) (before k l)) (rw at_end new) k (omega (arith, long))

    found : (i k : ℕ) → i < suc n → send i ≡ Some k → Dec (i < n) → (m : ℕ) × (m < length longer) × ((message longer m).receive ≡ i)
    found i k l s (yes less) =
        let (m, m<, is) = r.all i k less s in (m, omega (arith, long), rw (as_before m m<) is)
    found i k l s (no less) = let z : n ≡ i = omega arith in (length list, omega (arith, long), rw at_end z)

    one_more : Received send (suc n) longer
    unfolding count bit
    one_more =
        record {
          many = rw (e, long) (omega (arith, r.many));
          inside = each (λ k m. m.receive < suc n) (λ k l. omega (arith, r.inside k l)) (omega arith);
          sends = each (λ k m. send m.receive ≡ Some m.send) r.sends e;
          all = λ i k l s. found i k l s (dec_lt i n);
          order = λ k l less l<.
              each (λ l m. (k : ℕ) → k < l → (message longer k).receive < m.receive)
              (λ l l< k less. rw (as_before k (omega arith)) (r.order k l less l<))
              (λ k less. rw (as_before k less) (r.inside k less)) l l< k less;
        }

pub received : (send : ℕ → Option ℕ) (n : ℕ) → Received send n (messages_to send n)
unfolding messages_to message_at count
received send zero =
    record {
      many = refl;
      inside = λ k l. absurd (omega arith);
      sends = λ k l. absurd (omega arith);
      all = λ i j l. absurd (omega arith);
      order = λ k l less l<. absurd (omega arith);
    }
received send (suc n) = go (send n) refl (received send n)
  where
    go : (o : Option ℕ) → send n ≡ o → Received send n (messages_to send n) → Received send (suc n) (messages_to send n ++ message_at n o)
    go None e r = rw (append-nil (messages_to send n)) (no_more send n (messages_to send n) r e)
    go (Some j) e r = one_more send n (messages_to send n) r j e
