-- "then 16", and acceptance: what the ending of a call comes to, of a call that came so far.
use Rattle.std.specs.Prelude.{Result, Some, Ok, Err}
use Prim.Native.Nat.{ℕ, ◌≤◌, ◌<◌}
use native.Mathlib.Omega.{arith}
use mathlib.Core.Path.{◌≡◌, refl, sym, ap, ◌∙◌, subst}
use mathlib.Core.List.{List, [], ◌++◌}
use mathlib.Core.Bool.{Bool, true, false, cond, not}
use mathlib.Core.Logic.{◌↔◌}
use lib.ListN.{length, take, drop}
use lib.Seq.{ext_get_or}
use lib.IntN.{ℤ, pos}
use lib.Dec.{T, ltb, leb}
use borrow.Author.Tests.{lt-ltb, le-ltb, le-leb}
use Rattle.paper.specs.Columns.{nowhere}
use Rattle.paper.specs.Answer.{Inputs, Found, stopped, found, given, most, reach, conclude, judge, accepted, originals, on_written, written, refused}
use Rattle.paper.specs.Clock.{Waits, same, time_at}
use Rattle.paper.specs.Numbers.{number_of}
use Rattle.paper.specs.Matching.{waits_of, entry_at}
use Rattle.paper.specs.Reading.{Reading, read_of, lines_of}
use Rattle.paper.specs.Written.{written_from}
use Rattle.paper.specs.declared.Answer.{Answer}
use Rattle.paper.specs.declared.Entry.{Entry}
use Rattle.paper.specs.declared.Fault.{Fault}
use Rattle.paper.specs.declared.Refusal.{Refusal}
use Rattle.paper.specs.declared.Site.{Site}
use Rattle.rounds.specs.Meaning as rounds
use Rattle.rounds.proofs.Lists.{same_equal, equal_same}
use Rattle.rounds.proofs.Meaning.{settled_answer}
use Rattle.rounds.proofs.Still.{still_iff}
use Rattle.store.proofs.Listed.{length_listed, listed_at}
use Rattle.waits.proofs.Closed.{closed_waits}
use Rattle.demands.proofs.InOrder.{few_entries, originals_range}
use Rattle.demands.proofs.Rising.{between}
use Rattle.reach.specs.Reach.{Held, reaches}
use Rattle.reach.proofs.Means.{Means, found_means}
use Rattle.writing.specs.Outcome.{WrittenInto}
use Rattle.writing.proofs.Faithful.{Fits, bytes_written}
use Rattle.writing.proofs.Outcomes.{Tells, wrote, no_room, misfit, told}
use Rattle.answer.specs.declared.Counts.{Counts}
use Rattle.answer.specs.Answers.{refusal, acceptance, verdict_by}
use Rattle.ending.specs.Ending.{answer_for, placed, times_after, EndedBy}
use Rattle.judge.specs.Call.{inputs, outcome, wrote_by, FinishedBy, WithPlaces, ConcludedBy}
use Rattle.reach.specs.declared.Unreached.{Unreached}
use Rattle.writing.specs.declared.Unwritten.{Unwritten}

-- ---- a refusal

-- it leaves what was lent as it was
refused_is : (i : Inputs) (fault : Fault) (site : Site) → outcome (refusal fault site) i.times i.room ≡ refused i fault site
unfolding refusal refused
refused_is i fault site = refl

-- ---- the times were found

module _ (i : Inputs) (f : Found) (is : reach (given i) ≡ found f) where
  abbrev es : List Entry
  es = f.reading.entries

  abbrev w : Waits
  w = waits_of i.asked.share i.latencies es

  means : Means (given i) f
  means = found_means (given i) f is

  whole : (read_of f.choice (most (given i)) i.trace).stop ≡ Ok tt
  whole = ap (λ (r : Reading). r.stop) (sym means.reading) ∙ means.whole

  entries_are : es ≡ (read_of f.choice (most (given i)) i.trace).entries
  entries_are = ap (λ (r : Reading). r.entries) means.reading

  answer : rounds.Answer w f.rounds f.times
  answer = settled_answer w (closed_waits es i.asked.share i.latencies) means.settles

  size : length f.times ≡ length es
  unfolding waits_of
  size = answer.size

  few : length es ≤ most (given i)
  few = rw entries_are (few_entries f.choice (most (given i)) i.trace whole)

  -- as many times are lent as a call may list records
  places : length i.times ≡ most (given i)
  places = means.places

  -- ---- some time moved exactly if there was a round

  first_at : (k : ℕ) → k < length es → time_at (originals w) k ≡ (entry_at es k).body.time
  unfolding waits_of
  first_at k l = listed_at (length es) (λ k. (entry_at es k).body.time) k (pos 0) l

  still : (f.rounds ≡ 0) ↔ ((k : ℕ) → k < length es → time_at f.times k ≡ (entry_at es k).body.time)
  unfolding waits_of
  still = still_iff w (closed_waits es i.asked.share i.latencies) means.settles

  equal : f.rounds ≡ 0 → f.times ≡ originals w
  unfolding waits_of
  equal e =
      ext_get_or (pos 0) f.times (originals w) (size ∙ sym (length_listed (length es) (λ k. (entry_at es k).body.time)))
      (λ k l. let b : k < length es = rw size at l in still.0 e k b ∙ sym (first_at k b))

  moved : not (same f.times (originals w)) ≡ ltb 0 f.rounds
  moved = go (same f.times (originals w)) refl
    where
      go : (b : Bool) → same f.times (originals w) ≡ b → not b ≡ ltb 0 f.rounds
      go true e =
          let q : f.times ≡ originals w = same_equal f.times (originals w) (rw e tt) in
          let z : f.rounds ≡ 0 = still.1 (λ k l. ap (λ (xs : List ℤ). time_at xs k) q ∙ first_at k l) in
          rw z
      go false e =
          let n : f.rounds ≡ 0 → ⊥ = λ z. rw e at (subst (λ (xs : List ℤ). T (same xs (originals w))) (sym (equal z)) (equal_same (originals w))) in
          sym (lt-ltb 0 f.rounds (omega arith))

  -- ---- acceptance and 16

  module _ (counts : Counts) (store sends : List ℕ) (new : List ℤ) (held : Held i.trace f counts store sends new) where
    many : length f.times ≡ counts.listed
    many = size ∙ held.listed

    -- the store and the times are those of the trace
    its_own : Fits f.choice (most (given i)) i.trace store f.times
    unfolding waits_of
    its_own =
        record {
          whole = whole;
          entries = rw (many, ← entries_are) held.entries;
          starts = λ k l. rw (← entries_are) (held.starts k (rw many at l));
          forms = λ k l.
              let b : k < length es = rw size at l in
              let range = rw (← entries_are) at (originals_range f.choice (most (given i)) i.trace whole k) in
              between _ (time_at f.times k) (range b) (answer.least.sound.above k b) (answer.least.sound.within k b);
        }

    accepted_is : (bytes : List ℕ) → accepted i f bytes
        ≡ outcome (acceptance counts (length bytes)) (f.times ++ drop (length f.times) i.times) (bytes ++ drop (length bytes) i.room)
    unfolding accepted acceptance verdict_by
    accepted_is bytes = rw (moved, held.matched, held.unreceived, held.listed, held.passed, held.rounds)

    -- a place is lent for each
    enough : leb (length f.times) (length i.times) ≡ true
    enough = le-leb (length f.times) (length i.times) (omega (arith, size, few, places))

    module _ {r : Answer} {times' : List ℤ} where
      -- the ending by what was written
      ended : (done : Result ℕ Unwritten) (room' : List ℕ) → EndedBy counts done f.times i.times r times'
          → (bytes : List ℕ) → Tells (Some bytes) i.room done room' → outcome r times' room' ≡ on_written i f bytes
      unfolding on_written answer_for times_after placed acceptance refusal number_of
      ended done room' by bytes (wrote {word = word} e h) =
          let q : word ≡ bytes = cc in
          rw (by.answer, by.keeps, enough, q, le-ltb (length i.room) (length bytes) (rw q at h)) (sym (accepted_is bytes))
      ended done room' by bytes (no_room {word = word} e h) =
          let q : word ≡ bytes = cc in
          rw (by.answer, by.keeps, lt-ltb (length i.room) (length bytes) (rw q at h)) (refused_is i Fault.NoRoom nowhere)
      ended done room' by bytes (misfit e) = absurd (let z : ◌≡◌ {A = ℕ} 0 1 = cc in omega arith)

      finished : {room' : List ℕ} → FinishedBy counts i.trace store f.times i.times i.wanted i.room r times' room'
          → outcome r times' room' ≡ on_written i f (written i f.choice f.times)
      unfolding written wrote_by
      finished {room'} by = go i.wanted refl by.wrote
        where
          bytes : List ℕ
          bytes = written_from f.choice (lines_of i.trace) f.times

          go : (b : Bool) → i.wanted ≡ b → wrote_by b i.trace store f.times i.room by.done room'
              → outcome r times' room' ≡ on_written i f (cond i.wanted bytes [])
          go true e into =
              ended by.done room' by.ends bytes (rw (bytes_written its_own) at (told into))
              ∙ ap (λ (b : Bool). on_written i f (cond b bytes [])) (sym e)
          go false e (unwritten, kept) =
              ended by.done room' by.ends [] (rw (unwritten, kept) (wrote refl (omega arith)))
              ∙ ap (λ (b : Bool). on_written i f (cond b bytes [])) (sym e)

-- ---- however far the call came

module _ (counts : Counts) (trace store : List ℕ) (new times : List ℤ) {wanted : Bool} (room : List ℕ) {r : Answer} {times' : List ℤ} where
  pub finished_wanted : wanted ≡ true → (done : Result ℕ Unwritten) {room' : List ℕ} → WrittenInto trace store new room done room'
      → EndedBy counts done new times r times'
      → FinishedBy counts trace store new times wanted room r times' room'
  unfolding wrote_by
  finished_wanted e done into ends = rw e (record { done = done; wrote = into; ends = ends })

  pub finished_unasked : wanted ≡ false → EndedBy counts (Ok 0) new times r times'
      → FinishedBy counts trace store new times wanted room r times' room
  unfolding wrote_by
  finished_unasked e ends = rw e (record { done = Ok 0; wrote = (refl, refl); ends = ends })

-- the new times in front of their slice
pub within : {reached : Result Counts Unreached} (new : List ℤ) → WithPlaces reached new → (counts : Counts) → reached ≡ Ok counts → counts.listed ≤ length new
unfolding WithPlaces
within new enough counts e = rw e at enough

module _ (trace store : List ℕ) (new times : List ℤ) (wanted : Bool) (room : List ℕ) (r : Answer) where
  pub concluded_refused : {reached : Result Counts Unreached} {refused : Refusal} {why : Unreached} → reached ≡ Err why
      → why ≡ Unreached.Refused refused → r ≡ refusal refused.fault refused.site
      → ConcludedBy reached trace store new times wanted room r times room
  unfolding ConcludedBy reaches judge conclude
  concluded_refused {refused = it} e told a latencies asked sends says =
      let i = inputs trace latencies asked times wanted room in
      let stops : reach (given i) ≡ stopped it.fault it.site = rw (e, told) at says in
      rw (stops, a) (refused_is i it.fault it.site)

  pub concluded_never : {reached : Result Counts Unreached} {why : Unreached} → reached ≡ Err why → why ≡ Unreached.Misfit → ConcludedBy reached trace store new times wanted room r times room
  unfolding ConcludedBy reaches
  concluded_never e told latencies asked sends says = absurd (rw (e, told) at says)

  pub concluded_times : {reached : Result Counts Unreached} (counts : Counts) → reached ≡ Ok counts → {times' : List ℤ} {room' : List ℕ}
      → FinishedBy counts trace store (take counts.listed new) times wanted room r times' room'
      → ConcludedBy reached trace store new times wanted room r times' room'
  unfolding ConcludedBy reaches judge conclude
  concluded_times counts e by latencies asked sends says =
      let i = inputs trace latencies asked times wanted room in
      let (f, is, held) = rw e at says in
      rw is (finished i f is counts store sends new held (rw held.new at by))

-- a place for each listed record, of a call that came to its times
pub with_places : (i : Inputs) (reached : Result Counts Unreached) (store sends : List ℕ) (new : List ℤ) → reaches i.trace (reach (given i)) reached store sends new
    → most (given i) ≤ length new → WithPlaces reached new
unfolding WithPlaces reaches
with_places i (Ok counts) store sends new (f, is, held) long = omega (arith, held.listed, few i f is)
with_places i (Err (Unreached.Refused refusal)) store sends new says long = tt
with_places i (Err Unreached.Misfit) store sends new says long = tt
