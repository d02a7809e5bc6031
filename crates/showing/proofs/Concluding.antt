-- What is shown of a trace, by how far the call came.
use Rattle.std.specs.Prelude.{Result, Ok, Err}
use Prim.Native.Nat.{ℕ, ◌/◌, ◌≤◌, ◌<◌}
use native.Mathlib.Omega.{arith}
use mathlib.Core.Path.{◌≡◌, refl}
use mathlib.Core.Bool.{true}
use mathlib.Core.List.{List}
use lib.ListN.{length, take}
use lib.Seq.{length-take-le}
use lib.IntN.{ℤ}
use borrow.Author.Tests.{eq-eqb, lt-ltb}
use Rattle.paper.specs.Answer.{Found, found, reach}
use Rattle.paper.specs.Filling.{query, Query, judged}
use Rattle.paper.specs.declared.Answer.{Answer}
use Rattle.paper.specs.declared.Asked.{Asked}
use Rattle.paper.specs.declared.Refusal.{Refusal}
use Rattle.store.specs.Layout.{entries_in}
use Rattle.answer.specs.Answers.{refusal}
use Rattle.answer.specs.declared.Counts.{Counts}
use Rattle.reach.specs.Reach.{Held, reaches}
use Rattle.reach.proofs.Means.{found_means}
use Rattle.listing.proofs.Senders.{same_messages}
use Rattle.report.specs.Put.{Put}
use Rattle.report.specs.Said.{said_shown}
use Rattle.report.specs.declared.Said.TheVariants as Said
use Rattle.deliveries.specs.Deliveries.{pairs_in, fitting, DeliveredInto}
use Rattle.showing.specs.Shown.{Wide, shown_of, on_line, on_reached, on_trace}
use Rattle.chain.specs.Call.{Places}
use Rattle.showing.specs.Inner.{ConcludedBy}
use Rattle.showing.specs.declared.Shows.{Shows}
use Rattle.showing.specs.declared.Shows.TheVariants.{Messages, Reasons}
use Rattle.reach.specs.declared.Unreached.{Unreached}

-- ---- a place for each record

pub few_taken : {listed : ℕ} {sends : List ℕ} {new : List ℤ} → Places listed new sends → length (take listed new) ≤ 2048
few_taken {listed} {new = new} p = rw (length-take-le listed new p.with_times) p.few

-- ---- the ends

module _ (shows : Shows) (asked : Asked) (trace latencies line : List ℕ) (reached : Result Counts Unreached) (store sends : List ℕ) (new : List ℤ) (room : List ℕ) where
  abbrev q : Query
  q = query trace latencies asked

  pub refused_told : (why : Refusal) {stop : Unreached} {answer : Answer} {end : ℕ} {after : List ℕ} → reached ≡ Err stop → stop ≡ Unreached.Refused why
      → answer ≡ refusal why.fault why.site
      → Put room 0 (said_shown (Said.Answered answer)) end after
      → ConcludedBy shows asked trace latencies line reached store sends new room end after
  unfolding ConcludedBy reaches on_trace on_reached
  refused_told why e s a p = λ says. rw (rw (e, s) at says, ← a) p

  pub never_told : (end : ℕ) (after : List ℕ) {stop : Unreached} → reached ≡ Err stop → stop ≡ Unreached.Misfit → ConcludedBy shows asked trace latencies line reached store sends new room end after
  unfolding ConcludedBy reaches
  never_told end after e s = λ says. absurd (rw (e, s) at says)

  module _ (counts : Counts) (e : reached ≡ Ok counts) (p : Places counts.listed new sends) (wide : Wide room) where
    abbrev n : ℕ
    n = counts.listed

    module _ (f : Found) (is : reach (judged q) ≡ found f) (held : Held trace f counts store sends new) where
      long : length (take n new) ≡ n
      long = length-take-le n new p.with_times

      many : length (take n sends) ≡ n
      many = length-take-le n sends p.with_sends

      fit : fitting (length (take n sends)) (length (take n new)) (length room) ≡ true
      unfolding fitting Wide
      fit =
          let h : n < length room / 256 = omega (arith, p.few, wide) in
          rw (long, many, eq-eqb n n refl, lt-ltb n (length room / 256) h)

      mail : {end : ℕ} {after : List ℕ} → DeliveredInto store (take n sends) (take n new) room end after
          → Put room 0 (shown_of Messages q line f) end after
      unfolding shown_of pairs_in
      mail d =
          let there = rw long at (d.there fit) in
          rw (← same_messages f.reading.entries asked.share latencies, ← held.places, ← held.new, ← held.entries) there

      chained : {end : ℕ} {after : List ℕ}
          → (asked.share ≤ 1000 → Put room 0 (on_line q line (entries_in store (length (take n new))) (take n new)) end after)
          → Put room 0 (shown_of Reasons q line f) end after
      unfolding shown_of judged
      chained put = let there = rw (long, held.entries, held.new) at (put (found_means (judged q) f is).share) in there

    pub messages_told : shows ≡ Messages → {end : ℕ} {after : List ℕ}
        → DeliveredInto store (take n sends) (take n new) room end after
        → ConcludedBy shows asked trace latencies line reached store sends new room end after
    unfolding ConcludedBy reaches on_trace on_reached
    messages_told s d = λ says. let (f, is, held) = rw e at says in rw (is, s) (mail f is held d)

    pub chain_told : shows ≡ Reasons → {end : ℕ} {after : List ℕ}
        → (asked.share ≤ 1000 → Put room 0 (on_line q line (entries_in store (length (take n new))) (take n new)) end after)
        → ConcludedBy shows asked trace latencies line reached store sends new room end after
    unfolding ConcludedBy reaches on_trace on_reached
    chain_told s put = λ says. let (f, is, held) = rw e at says in rw (is, s) (chained f is held put)
