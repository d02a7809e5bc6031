-- The pass from the last record to the first that chains the sends: one turn.
use Prim.Native.Nat.{ℕ, ◌+◌, ◌≤◌, ◌<◌}
use native.Mathlib.Omega.{arith}
use native.Mathlib.Decide.{dec_lt}
use mathlib.Core.Path.{◌≡◌, refl, sym, ap, ◌∙◌}
use mathlib.Core.Bool.{Bool, true, false, true≢false}
use mathlib.Core.List.{List}
use borrow.Author.Tests.{eqb-true, eq-eqb}
use lib.Dec.{eqb}
use lib.ListN.{length, get_or, set, replicate, length-set, length-replicate, get_or-replicate}
use lib.Seq.{get_or-set_same, get_or-set_other}
use Rattle.side.specs.declared.Key.{Key}
use Rattle.side.specs.declared.Side.{Side}
use Rattle.side.specs.declared.Side.TheVariants.{Neither, Sends, Receives}
use Rattle.side.specs.Sides.{side_at, sends_in, bucket_of}
use Rattle.store.specs.Layout.{too_many}
use Rattle.chains.specs.Chains.{Filled, First, send_in, Chained}
use Rattle.chains.proofs.Walks.{first_here, first_earlier}

pub filled_with : (v : ℕ) → Filled (replicate 1024 v) v
filled_with v = record { buckets = length-replicate 1024 v; each = λ b h. get_or-replicate 1024 b v 0 h }

-- nothing is chained yet
pub chain_begins : (l : List ℕ) (link heads : List ℕ) → length link < too_many → Filled heads (length link)
    → Chained l (length link) link heads (length link)
chain_begins l link heads few e =
    record {
      few = few;
      size = refl;
      buckets = e.buckets;
      head = λ b h.
          rw (e.each b h)
          (record { from = omega arith; upto = omega arith; none = λ k a c. absurd (omega arith); here = λ m. absurd (omega arith) });
      linked = λ j b a m. absurd (omega arith);
    }

module _ (l : List ℕ) (n : ℕ) (link heads : List ℕ) (i : ℕ) (m : i < n) (h : Chained l n link heads (i + 1)) where
  -- a record that is no send
  pub chain_none : ((b : ℕ) → send_in l b i ≡ false) → Chained l n link heads i
  chain_none out =
      record {
        few = h.few;
        size = h.size;
        buckets = h.buckets;
        head = λ b g. first_earlier (send_in l b) i n (get_or heads b 0) (out b) (h.head b g);
        linked = λ j b a g e. later j b a g e (dec_lt i j);
      }
    where
      later : (j b : ℕ) → i ≤ j → j < n → send_in l b j ≡ true → Dec (i < j) → First (send_in l b) n (j + 1) (get_or link j 0)
      later j b a g e (yes d) = h.linked j b (omega arith) g e
      later j b a g e (no d) =
          let z : j ≡ i = omega arith in
          absurd (true≢false (sym e ∙ rw z (out b)))

  -- a send in bucket b, and in no other
  module _ (b : ℕ) (low : b < 1024) (is_in : (c : ℕ) → send_in l c i ≡ eqb b c) where
    here : send_in l b i ≡ true
    here = is_in b ∙ eq-eqb b b refl

    head_of : (c : ℕ) → c < 1024 → (t : Bool) → eqb b c ≡ t → First (send_in l c) n i (get_or (set heads b i) c 0)
    head_of c g true e =
        let z : b ≡ c = eqb-true b c e in
        rw (← z, get_or-set_same heads b i 0 (omega (arith, h.buckets))) (first_here (send_in l b) i n m here)
    head_of c g false e =
        rw (get_or-set_other heads b c i 0 (λ z. true≢false (sym (eq-eqb b c (sym z)) ∙ e)))
        (first_earlier (send_in l c) i n (get_or heads c 0) (is_in c ∙ e) (h.head c g))

    next_of : (j c : ℕ) → i ≤ j → j < n → send_in l c j ≡ true → Dec (i < j)
        → First (send_in l c) n (j + 1) (get_or (set link i (get_or heads b 0)) j 0)
    next_of j c a g e (yes d) = rw (get_or-set_other link i j (get_or heads b 0) 0 (λ z. absurd (omega arith))) (h.linked j c (omega arith) g e)
    next_of j c a g e (no d) =
        let z : i ≡ j = omega arith in
        let y : b ≡ c = eqb-true b c (sym (is_in c) ∙ rw z e) in
        rw (← z, ← y, get_or-set_same link i (get_or heads b 0) 0 (omega (arith, h.size))) (h.head b low)

    pub chain_send : Chained l n (set link i (get_or heads b 0)) (set heads b i) i
    chain_send =
        record {
          few = h.few;
          size = simp length-set h.size;
          buckets = simp length-set h.buckets;
          head = λ c g. head_of c g (eqb b c) refl;
          linked = λ j c a g e. next_of j c a g e (dec_lt i j);
        }

-- which bucket a record's side is in
module _ (l : List ℕ) (i : ℕ) {side : Side} (e : side ≡ side_at l i) where
  pub neither_sends : side ≡ Neither → (b : ℕ) → send_in l b i ≡ false
  neither_sends f b = ap (sends_in b) (sym e ∙ f)

  pub receive_sends : {k : Key} → side ≡ Receives k → (b : ℕ) → send_in l b i ≡ false
  receive_sends f b = ap (sends_in b) (sym e ∙ f)

  pub sends_in_lem : {k : Key} → side ≡ Sends k → (b c : ℕ) → b ≡ bucket_of k → send_in l c i ≡ eqb b c
  sends_in_lem {k} f b c g = ap (sends_in c) (sym e ∙ f) ∙ ap (λ (x : ℕ). eqb x c) (sym g)
