-- The messages matched, and what the times then come to.
use Rattle.std.specs.Prelude.{Result, Ok, Err}
use Prim.Native.Nat.{ℕ, ◌≤◌, ◌<◌}
use mathlib.Core.Path.{◌≡◌, refl, sym, ap, ◌∙◌}
use mathlib.Core.List.{List, [], ◌∷◌}
use mathlib.Core.Bool.{Bool, true, false, cond, ◌&&◌}
use native.Mathlib.Omega.{arith}
use lib.ListN.{length, take, replicate}
use lib.Seq.{length-take-le}
use lib.IntN.{ℤ}
use lib.Dec.{leb, ltb, eqb}
use borrow.Author.Tests.{le-leb, ltb-true, leb-true}
use Rattle.paper.specs.Matching.{matched_of, matched_count, unreceived_count}
use Rattle.paper.specs.declared.Entry.{Entry}
use Rattle.store.specs.Layout.{too_many, capacity, entries_in}
use Rattle.chains.specs.Places.{places_of}
use Rattle.chains.proofs.Outcomes.{they_fit}
use Rattle.message.specs.Outcome as message
use Rattle.forms.proofs.Tests.{both}
use Rattle.engine.specs.Promise.{all_are}
use Rattle.engine.proofs.Lengths.{all_equal}
use Rattle.solve.specs.Outcome.{fitting, Keepable, kept_places, solved_by, SolvedInto, unmatched_as, unsettled_as, Tables, settled_by}
use Rattle.paper.specs.declared.Refusal.{Refusal}
use Rattle.message.specs.declared.Unmatched.{Unmatched}
use Rattle.engine.specs.declared.Unsettled.{Unsettled}
use Rattle.solve.specs.declared.Unsolved.{Unsolved}

-- ---- slices that fit, and slices that do not

-- the gaps that are lent are not more than there are
pub few_kept : (share n : ℕ) {kept : ℕ} → kept ≡ kept_places share n → kept ≤ n
unfolding kept_places
few_kept share n {kept} is = go (eqb share 0) is
  where
    go : (t : Bool) → kept ≡ cond t 0 n → kept ≤ n
    go true e = omega arith
    go false e = omega arith

pub unfit : {fits : Bool} → fits ≡ false → (share : ℕ) (table : List ℕ) (es : List Entry) (sends : List ℕ) (times : List ℤ)
    → SolvedInto fits share table es (Err Unsolved.Misfit) sends times
unfit e share table es sends times = rw e (record { answers = λ z. absurd (let q : ◌≡◌ {A = ℕ} 0 1 = cc in omega arith); misfits = λ z. refl })

-- ---- an answer to the messages, of slices that fit

abbrev counts_or : Result (ℕ × ℕ) Unmatched → ℕ × ℕ
counts_or (Ok counts) = counts
counts_or (Err unmatched) = (0, 0)

module _ (store : List ℕ) (times : List ℤ) {space : ℕ} (holds : space ≡ capacity store) (sends before gap latency : List ℕ) (spare : List ℤ) {told : Bool}
    (tells : told ≡ fitting (length times) space (length sends ∷ length before ∷ length gap ∷ length latency ∷ length spare ∷ [])) (yes-fit : told ≡ true)
    (r : Result (ℕ × ℕ) Unmatched) (places links : List ℕ)
    (is : ◌≡◌ {A = message.Outcome} (record { answer = r; sends = places; link = links }) (message.matching store sends before)) where
  es : List Entry
  es = entries_in store (length times)

  fit_is : fitting (length times) (capacity store) (length sends ∷ length before ∷ length gap ∷ length latency ∷ length spare ∷ []) ≡ true
  fit_is = rw (← holds) (sym tells ∙ yes-fit)

  lengths : List ℕ
  lengths = length sends ∷ length before ∷ length gap ∷ length latency ∷ length spare ∷ []

  record Facts : Type 0 where
    low : ltb (length times) too_many ≡ true
    held : leb (length times) (capacity store) ≡ true
    all : all_are (length times) (length sends ∷ length before ∷ length gap ∷ length latency ∷ length spare ∷ []) ≡ true

  facts : Facts
  unfolding fitting lengths
  facts =
      let f = both (ltb (length times) too_many && leb (length times) (capacity store)) (all_are (length times) lengths) fit_is in
      let g = both (ltb (length times) too_many) (leb (length times) (capacity store)) f.0 in
      record { low = g.0; held = g.1; all = f.1 }

  few : length times < too_many
  few = ltb-true (length times) too_many facts.low

  room : length times ≤ capacity store
  room = leb-true (length times) (capacity store) facts.held

  record Lengths : Type 0 where
    all_sends : length sends ≡ length times
    all_before : length before ≡ length times
    all_gap : length gap ≡ length times
    all_latency : length latency ≡ length times
    all_spare : length spare ≡ length times

  equal : Lengths
  equal =
      let (s, b, g, l, p) = all_equal (length times) _ _ _ _ _ facts.all in
      record { all_sends = s; all_before = b; all_gap = g; all_latency = l; all_spare = p }

  matched_is : ◌≡◌ {A = message.Outcome} (record { answer = r; sends = places; link = links })
      (record { answer = message.answer_of es; sends = places_of es; link = replicate (length times) 0 })
  unfolding message.matching message.fitting es
  matched_is =
      let n = equal.all_sends in
      let fit = they_fit sends before (equal.all_before ∙ sym n) (rw n few) in
      is ∙ rw (fit, n, le-leb (length times) (capacity store) room)

  answer_is : r ≡ message.answer_for es (matched_of es)
  unfolding message.answer_of
  answer_is = ap (λ (o : message.Outcome). o.answer) matched_is

  module _ (share : ℕ) (table : List ℕ) where
    abbrev Into : Result (ℕ × ℕ × ℕ) Unsolved → List ℕ → List ℤ → Type 0
    Into x sends' times' =
        SolvedInto (fitting (length times) (capacity store) (length sends ∷ length before ∷ length gap ∷ length latency ∷ length spare ∷ [])) share table
        (entries_in store (length times)) x sends' times'

    answer : (x : Result (ℕ × ℕ × ℕ) Unsolved) (sends' : List ℕ) (times' : List ℤ) → (Keepable share es → solved_by share table es x sends' times') → Into x sends' times'
    unfolding es
    answer x sends' times' by =
        rw fit_is (record { answers = λ z. by; misfits = λ z. absurd (let q : ◌≡◌ {A = ℕ} 0 1 = cc in omega arith) })

    -- a refusal of the messages; and slices that fit are never a misfit
    pub out_unmatched : (unmatched : Unmatched) → r ≡ Err unmatched → (times' : List ℤ) → Into (Err (unmatched_as unmatched)) places times'
    unfolding solved_by
    out_unmatched (Unmatched.Refused refusal) e times' = answer (Err (Unsolved.Refused refusal)) places times' (λ keep. go (matched_of es) (sym answer_is ∙ e))
      where
        go : (s : Result Unit Refusal) → message.answer_for es s ≡ Err (Unmatched.Refused refusal) → s ≡ Err refusal
        go (Ok tt) q = cc
        go (Err other) q = cc
    out_unmatched Unmatched.Misfit e times' = absurd (go (matched_of es) (sym answer_is ∙ e))
      where
        go : (s : Result Unit Refusal) → message.answer_for es s ≡ Err Unmatched.Misfit → ⊥
        go (Ok tt) q = let z : ◌≡◌ {A = ℕ} 0 1 = cc in omega arith
        go (Err refusal) q = let z : ◌≡◌ {A = ℕ} 0 1 = cc in omega arith

    module _ (matched unreceived : ℕ) (e : r ≡ Ok (matched, unreceived)) where
      record AllMatched : Type 0 where
        stop : matched_of es ≡ Ok tt
        many_matched : matched ≡ matched_count es
        left : unreceived ≡ unreceived_count es

      all_matched : AllMatched
      all_matched = go (matched_of es) refl (sym answer_is ∙ e)
        where
          go : (s : Result Unit Refusal) → matched_of es ≡ s → message.answer_for es s ≡ Ok (matched, unreceived) → AllMatched
          go (Ok tt) p q = record { stop = p; many_matched = sym (ap (λ c. (counts_or c).0) q); left = sym (ap (λ c. (counts_or c).1) q) }
          go (Err refusal) p q = absurd (let z : ◌≡◌ {A = ℕ} 0 1 = cc in omega arith)

      pub tables : length links ≡ length before → {kept : ℕ} → kept ≡ kept_places share (length gap)
          → Tables share store places links (take kept gap) latency times spare
      unfolding es
      tables same {kept} is =
          record {
            places = ap (λ (o : message.Outcome). o.sends) matched_is;
            few = few;
            room = room;
            all_before = same ∙ equal.all_before;
            all_gap = length-take-le kept gap (few_kept share (length gap) is) ∙ is ∙ ap (kept_places share) equal.all_gap;
            all_latency = equal.all_latency;
            all_spare = equal.all_spare;
          }

      pub out_rounds : (rounds : ℕ) (times' : List ℤ)
          → (Keepable share (entries_in store (length times)) → settled_by share table (entries_in store (length times)) (Ok rounds) times')
          → Into (Ok (matched, unreceived, rounds)) places times'
      unfolding solved_by settled_by es
      out_rounds rounds times' by =
          answer (Ok (matched, unreceived, rounds)) places times'
          (λ keep.
          record {
            matches = all_matched.stop;
            settles = by keep;
            places = ap (λ (o : message.Outcome). o.sends) matched_is;
            many = all_matched.many_matched;
            left = all_matched.left;
          })

      pub out_unsettled : (unsettled : Unsettled) (times' : List ℤ)
          → (Keepable share (entries_in store (length times)) → settled_by share table (entries_in store (length times)) (Err unsettled) times')
          → Into (Err (unsettled_as unsettled)) places times'
      unfolding solved_by settled_by es
      out_unsettled Unsettled.Impossible times' by = answer (Err Unsolved.Impossible) places times' (λ keep. (all_matched.stop, by keep))
      out_unsettled Unsettled.Misfit times' by = answer (Err Unsolved.Misfit) places times' (λ keep. absurd (by keep))
