-- What the ending of a call comes to, of a call that came so far.
use Rattle.std.specs.Prelude.{Result, Ok, Err}
use Prim.Native.Nat.{ℕ, ◌/◌, ◌≤◌}
use native.Mathlib.Nat.{le_trans}
use native.Mathlib.Omega.{arith}
use mathlib.Core.Path.{◌≡◌, refl, sym, ap, ◌∙◌}
use mathlib.Core.List.{List}
use mathlib.Core.Bool.{Bool, true, false}
use lib.ListN.{length, take}
use lib.IntN.{ℤ}
use lib.Seq.{length-take-le}
use lib.Dec.{ltb}
use borrow.Author.Tests.{ltb-false}
use borrow.Table.Elements.{take-le}
use Rattle.paper.specs.Answer.{Found, stopped, found, reach}
use Rattle.paper.specs.Filling.{Query, judged, untouched, filled_with, on_list, on_reached, fill}
use Rattle.paper.specs.Matching.{waits_of}
use Rattle.paper.specs.Messages.{messages_to, messages_of, messages}
use Rattle.paper.specs.declared.Fault.{Fault}
use Rattle.paper.specs.declared.Filled.{Filled}
use Rattle.paper.specs.declared.Refusal.{Refusal}
use Rattle.paper.specs.declared.Site.{Site}
use Rattle.reach.specs.Reach.{reaches}
use Rattle.answer.specs.declared.Counts.{Counts}
use Rattle.answer.specs.Answers.{unfilling, filling_in}
use Rattle.chains.specs.Places.{places_of}
use Rattle.chains.proofs.Places.{length_places}
use Rattle.mail.specs.Mail.{send_in, Holds}
use Rattle.listing.specs.Plan.{laid, Planned, WithSends, ConcludedBy}
use Rattle.listing.proofs.Laying.{laid_all}
use Rattle.listing.proofs.Senders.{same_messages}
use Rattle.reach.specs.declared.Unreached.{Unreached}

-- ---- a refusal

module _ (q : Query) (places : ℕ) (numbers : List ℕ) where
  planned_stop : {fault : Fault} {site : Site} → reach (judged q) ≡ stopped fault site → {r : Filled} → r ≡ unfilling fault site → Planned q places r numbers
  unfolding unfilling messages fill on_reached untouched laid
  planned_stop stops e = rw e (record { within = omega arith; gives = λ list size. rw stops })

  -- ---- the messages

  module _ (f : Found) (is : reach (judged q) ≡ found f) {count : ℕ}
      (holds : Holds (messages_of (waits_of q.asked.share q.latencies f.reading.entries)) count numbers) where
    planned_found : {r : Filled} → r ≡ filling_in count places → Planned q places r numbers
    unfolding filling_in unfilling messages fill on_reached on_list untouched filled_with laid
    planned_found {r} e = go (ltb places count) refl
      where
        go : (b : Bool) → ltb places count ≡ b → Planned q places r numbers
        go true t = rw (e, t) (record { within = omega arith; gives = λ list size. rw (is, size, holds.many, t) })
        go false t =
            let enough : count ≤ places = ltb-false places count t in
            rw (e, t)
            (record {
              within = enough;
              gives = λ list size.
                  rw (is, size, holds.many, t, laid_all numbers list holds (omega (arith, enough, size)));
            })

-- ---- however far the call came

module _ (sends : List ℕ) (places room : ℕ) (numbers : List ℕ) where
  pub concluded_refused : {reached : Result Counts Unreached} {why : Unreached} (refusal : Refusal) → reached ≡ Err why → why ≡ Unreached.Refused refusal
      → {r : Filled} → r ≡ unfilling refusal.fault refusal.site → ConcludedBy reached sends places room r numbers
  unfolding ConcludedBy reaches
  concluded_refused refusal e f a q store new enough says = planned_stop q places numbers (rw (e, f) at says) a

  pub concluded_never : {reached : Result Counts Unreached} {why : Unreached} → reached ≡ Err why → why ≡ Unreached.Misfit → (r : Filled)
      → ConcludedBy reached sends places room r numbers
  unfolding ConcludedBy reaches
  concluded_never e f r q store new enough says = absurd (rw (e, f) at says)

  pub concluded_times : {reached : Result Counts Unreached} (counts : Counts) → reached ≡ Ok counts → {count : ℕ}
      → (length (take counts.listed sends) ≤ room / 2
      → Holds (messages_to (send_in (take counts.listed sends)) (length (take counts.listed sends))) count numbers)
      → {r : Filled} → r ≡ filling_in count places → ConcludedBy reached sends places room r numbers
  unfolding ConcludedBy reaches
  concluded_times counts e gathered a q store new enough says =
      let (f, is, held) = rw e at says in
      let es = f.reading.entries in
      let first : take counts.listed sends ≡ places_of es = held.places in
      let short : length (take counts.listed sends) ≤ length sends = take-le counts.listed sends in
      let holds = gathered (le_trans short enough) in
      planned_found q places numbers f is (rw (first, same_messages es q.asked.share q.latencies) at holds) a

-- so many places of sends are in front of their slice
pub within : {reached : Result Counts Unreached} (sends : List ℕ) → WithSends reached sends → (counts : Counts) → reached ≡ Ok counts
    → counts.listed ≡ length (take counts.listed sends)
unfolding WithSends
within sends enough counts e = sym (length-take-le counts.listed sends (rw e at enough))

-- a send's place for each listed record, of a call that came to its times
pub with_sends : (q : Query) (reached : Result Counts Unreached) (store sends : List ℕ) (new : List ℤ)
    → reaches q.trace (reach (judged q)) reached store sends new → WithSends reached sends
unfolding WithSends reaches
with_sends q (Ok counts) store sends new (f, is, held) =
    let long = ap (λ (l : List ℕ). length l) held.places ∙ length_places f.reading.entries ∙ held.listed in
    rw long at (take-le counts.listed sends)
with_sends q (Err (Unreached.Refused refusal)) store sends new says = tt
with_sends q (Err Unreached.Misfit) store sends new says = tt
