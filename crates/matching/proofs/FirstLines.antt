-- The first lines of a trace that goes on: what their records wait for stays as it is, where their receives are all matched.
use Rattle.std.specs.Prelude.{Option, Some, None, Ok}
use Prim.Native.Nat.{ℕ, zero, suc, ◌≤◌, ◌<◌}
use native.Mathlib.Omega.{arith}
use mathlib.Core.Path.{◌≡◌, refl, sym, ap, ◌∙◌}
use mathlib.Core.List.{List, ◌++◌}
use lib.ListN.{length, length-append, get_or-append}
use lib.Seq.{take-append-le}
use Rattle.paper.specs.Clock.{Waits}
use Rattle.paper.specs.Matching.{Key, is_send_of, send_place, send_for, entry_at, send_of, matched_of, last_of, last_on, latency_for, gap_from, waits_of}
use Rattle.paper.specs.declared.Message.{Message}
use Rattle.paper.specs.declared.Role.{Role}
use Rattle.paper.specs.declared.Role.TheVariants.{Neither, Send, Receive}
use Rattle.paper.specs.declared.Entry.{Entry}
use Rattle.matching.proofs.Count.{count_same}
use Rattle.matching.proofs.Places.{send_at, place_answers}
use Rattle.matching.proofs.Keys.{receive_key}
use Rattle.matching.proofs.Belong.{processor_at, role_at}
use Rattle.matching.proofs.Before.{last_on_lem}
use Rattle.matching.proofs.Calls.{every_receive}

-- one set of waits begins with another
pub record Begins (w v : Waits) : Type 0 where
  pub size : v.size ≤ w.size
  pub original : (i : ℕ) → i < v.size → w.original i ≡ v.original i
  pub before : (i : ℕ) → i < v.size → w.before i ≡ v.before i
  pub gap : (i : ℕ) → i < v.size → w.gap i ≡ v.gap i
  pub send : (i : ℕ) → i < v.size → w.send i ≡ v.send i
  pub latency : (i : ℕ) → i < v.size → w.latency i ≡ v.latency i

module _ (es more : List Entry) where
  pub entry_stays : (i : ℕ) → i < length es → entry_at (es ++ more) i ≡ entry_at es i
  unfolding entry_at
  entry_stays i h = get_or-append es more _ i h

  -- a k-th send that is there stays the k-th
  pub place_stays : (key : Key) (k j : ℕ) → send_place key k es ≡ Some j → send_place key k (es ++ more) ≡ Some j
  place_stays key k j h =
      let f = (place_answers key k es).sound j h in
      (place_answers key k (es ++ more)).whole j
      (record {
        within = simp length-append (omega (arith, f.within));
        passes = ap (is_send_of key) (entry_stays j f.within) ∙ f.passes;
        rank = count_same (send_at key (es ++ more)) (send_at key es) j (λ i l. ap (is_send_of key) (entry_stays i (omega (arith, f.within)))) ∙ f.rank;
      })

  send_stays_for : (i processor j : ℕ) (r : Role) → i ≤ length es → send_for es i processor r ≡ Some j
      → send_for (es ++ more) i processor r ≡ Some j
  unfolding send_for
  send_stays_for i processor j Neither l h = h
  send_stays_for i processor j (Send m) l h = h
  send_stays_for i processor j (Receive m) l h = rw (take-append-le i es more l) (place_stays (receive_key processor m) _ j h)

  -- a receive that has a send keeps it
  pub kept_send : (i j : ℕ) → i < length es → send_of es i ≡ Some j → send_of (es ++ more) i ≡ Some j
  unfolding send_of
  kept_send i j l h = rw (entry_stays i l) (send_stays_for i (processor_at es i) j (role_at es i) (omega arith) h)

  -- what is no receive has no send
  no_send : (i processor : ℕ) (r : Role)
      → ((m : Message) → r ≡ Receive m → send_for (es ++ more) i processor r ≡ send_for es i processor r)
      → send_for (es ++ more) i processor r ≡ send_for es i processor r
  unfolding send_for
  no_send i processor Neither f = refl
  no_send i processor (Send m) f = refl
  no_send i processor (Receive m) f = f m refl

  pub send_stays : matched_of es ≡ Ok tt → (i : ℕ) → i < length es → send_of (es ++ more) i ≡ send_of es i
  unfolding send_of
  send_stays h i l =
      rw (entry_stays i l)
      (no_send i (processor_at es i) (role_at es i)
      (λ m r. let (j, e, same) = every_receive es h i l m r in rw (entry_stays i l) at (kept_send i j l e) ∙ sym e))

  pub last_stays : (processor i : ℕ) → i ≤ length es → last_on (es ++ more) processor i ≡ last_on es processor i
  unfolding last_of
  last_stays processor zero l = refl
  last_stays processor (suc i) l = rw (entry_stays i (omega arith), last_stays processor i (omega arith))

  before_stays : (i : ℕ) → i < length es → last_on (es ++ more) (processor_at (es ++ more) i) i ≡ last_on es (processor_at es i) i
  before_stays i l =
      ap (λ (e : Entry). last_on (es ++ more) e.body.processor i) (entry_stays i l) ∙ last_stays (processor_at es i) i (omega arith)

  -- the two times that a gap lies between are of records before the place and at it
  gap_from_stays : (share i : ℕ) → i < length es → (o : Option ℕ) → ((j : ℕ) → o ≡ Some j → j < i)
      → gap_from share (es ++ more) i o ≡ gap_from share es i o
  unfolding gap_from
  gap_from_stays share i l None before = refl
  gap_from_stays share i l (Some j) before = rw (entry_stays i l, entry_stays j (omega (arith, before j refl)))

  gap_stays : (share i : ℕ) → i < length es
      → gap_from share (es ++ more) i (last_on (es ++ more) (processor_at (es ++ more) i) i) ≡ gap_from share es i (last_on es (processor_at es i) i)
  gap_stays share i l =
      ap (gap_from share (es ++ more) i) (before_stays i l)
      ∙ gap_from_stays share i l (last_on es (processor_at es i) i) (λ j e. (last_on_lem es (processor_at es i) i j e).before)

  pub waits_begin : (share : ℕ) (latencies : List ℕ) → matched_of es ≡ Ok tt
      → Begins (waits_of share latencies (es ++ more)) (waits_of share latencies es)
  unfolding waits_of
  waits_begin share latencies h =
      record {
        size = simp length-append (omega arith);
        original = λ i l. ap (λ (e : Entry). e.body.time) (entry_stays i l);
        before = before_stays;
        gap = gap_stays share;
        send = send_stays h;
        latency = λ i l. ap (λ (e : Entry). latency_for latencies e.body.processor e.body.role) (entry_stays i l);
      }
