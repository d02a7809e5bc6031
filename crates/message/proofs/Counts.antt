-- The counts, record by record.
use Prim.Native.Nat.{ℕ, ◌+◌, ◌-◌, ◌≤◌}
use native.Mathlib.Omega.{arith}
use native.Mathlib.Numerals.{add-one}
use mathlib.Core.Path.{◌≡◌, refl, ap, ◌∙◌}
use mathlib.Core.Bool.{Bool}
use mathlib.Core.List.{List}
use Rattle.paper.specs.Matching.{entry_at, is_send, is_receive, count_if, matched_count, unreceived_count}
use Rattle.paper.specs.declared.Entry.{Entry}
use Rattle.paper.specs.declared.Message.{Message}
use Rattle.paper.specs.declared.Role.{Role}
use Rattle.paper.specs.declared.Role.TheVariants.{Neither, Send, Receive}
use Rattle.matching.proofs.Count.{count, bit, count_all, count_same}
use Rattle.store.specs.Layout.{entry_from, entries_in}
use Rattle.store.proofs.Laws.{length_entries, entry_in}

abbrev pub receives : List ℕ → ℕ → Bool
receives l i = is_receive (entry_from l i).body.role

abbrev pub sendings : List ℕ → ℕ → Bool
sendings l i = is_send (entry_from l i).body.role

-- so many of the first i records are receives, and so many sends
pub record Counted (l : List ℕ) (i received sent : ℕ) : Type 0 where
  pub few_received : received ≤ i
  pub few_sent : sent ≤ i
  pub received_is : received ≡ count (receives l) i
  pub sent_is : sent ≡ count (sendings l) i

pub none_counted : (l : List ℕ) → Counted l 0 0 0
unfolding count
none_counted l = record { few_received = omega arith; few_sent = omega arith; received_is = refl; sent_is = refl }

-- one record more
module _ {l : List ℕ} {i received sent : ℕ} (h : Counted l i received sent) {role : Role} (is : role ≡ (entry_from l i).body.role) where
  pub one_received : (m : Message) → role ≡ Receive m → Counted l (i + 1) (received + 1) sent
  unfolding count bit is_receive is_send
  one_received m e =
      record {
        few_received = omega (arith, h.few_received);
        few_sent = omega (arith, h.few_sent);
        received_is = rw (add-one i, ← is, e) (omega (arith, h.received_is));
        sent_is = rw (add-one i, ← is, e) (omega (arith, h.sent_is));
      }

  pub one_sent : (m : Message) → role ≡ Send m → Counted l (i + 1) received (sent + 1)
  unfolding count bit is_receive is_send
  one_sent m e =
      record {
        few_received = omega (arith, h.few_received);
        few_sent = omega (arith, h.few_sent);
        received_is = rw (add-one i, ← is, e) (omega (arith, h.received_is));
        sent_is = rw (add-one i, ← is, e) (omega (arith, h.sent_is));
      }

  pub one_passed : role ≡ Neither → Counted l (i + 1) received sent
  unfolding count bit is_receive is_send
  one_passed e =
      record {
        few_received = omega (arith, h.few_received);
        few_sent = omega (arith, h.few_sent);
        received_is = rw (add-one i, ← is, e) (omega (arith, h.received_is));
        sent_is = rw (add-one i, ← is, e) (omega (arith, h.sent_is));
      }

module _ (l : List ℕ) (n : ℕ) where
  counted_all : (test : Entry → Bool) → count_if test (entries_in l n) ≡ count (λ i. test (entry_from l i)) n
  counted_all test =
      rw (length_entries l n) at (count_all test (entries_in l n))
      ∙ count_same (λ i. test (entry_at (entries_in l n) i)) (λ i. test (entry_from l i)) n (λ i m. ap test (entry_in l n i m))

  received_all : matched_count (entries_in l n) ≡ count (receives l) n
  unfolding matched_count
  received_all = counted_all (λ e. is_receive e.body.role)

  unreceived_all : unreceived_count (entries_in l n) ≡ count (sendings l) n - count (receives l) n
  unfolding unreceived_count
  unreceived_all = rw (received_all, counted_all (λ e. is_send e.body.role))

  pub all_counted : {received sent : ℕ} → Counted l n received sent
      → ◌≡◌ {A = ℕ × ℕ} (received, sent - received) (matched_count (entries_in l n), unreceived_count (entries_in l n))
  all_counted h = rw (received_all, unreceived_all, ← h.received_is, ← h.sent_is)
