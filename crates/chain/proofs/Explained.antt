-- The walk along the steps that the code lays out is the chain of the definition.
use Prim.Native.Nat.{ℕ, ◌<◌}
use mathlib.Core.Path.{◌≡◌, refl, sym, ap, ◌∙◌}
use mathlib.Core.Bool.{true}
use mathlib.Core.List.{List, [], ◌∷◌}
use borrow.Author.Tests.{lt-ltb, eq-eqb}
use lib.ListN.{length}
use lib.IntN.{ℤ}
use Rattle.paper.specs.Chain.{steps_of, chain_of}
use Rattle.paper.specs.Clock.{time_at}
use Rattle.paper.specs.Filling.{filling, on_list}
use Rattle.paper.specs.Matching as paper
use Rattle.paper.specs.declared.Entry.{Entry}
use Rattle.paper.specs.declared.Filled.{Filled}
use Rattle.store.specs.Layout.{too_many}
use Rattle.store.proofs.Listed.{length_listed}
use Rattle.chains.specs.Places.{places_of}
use Rattle.chains.proofs.Places.{length_places}
use Rattle.engine.specs.Promise.{all_are, waits_of}
use Rattle.rounds.specs.Compare.{First}
use Rattle.waits.specs.Tables.{original_at, originals_of, before_at, befores_of, gaps_of, latencies_of}
use Rattle.waits.proofs.Same.{tables_agree}
use Rattle.waits.proofs.Gaps.{gaps_at}
use Rattle.steps.specs.Tables.{exact_table, end_ranks}
use Rattle.ranks.specs.Ranked.{Ranked, rankable, RankedInto, OneEach}
use Rattle.walk.specs.Way.{way_at}
use Rattle.chain.specs.Call.{Rooms, Stepped, ExplainedBy}
use Rattle.chain.proofs.Steps.{chain_way}
use Rattle.chain.proofs.Tables.{linked}
use Rattle.chain.proofs.Single.{befores_single, sends_single, exact_single}

-- ---- the tables of some records

module _ (share : ℕ) (table : List ℕ) (es : List Entry) (times : List ℤ) (size : length times ≡ length es) where
  abbrev n : ℕ
  n = length times

  abbrev first : List ℕ
  first = exact_table times (gaps_of share es) n (befores_of es)

  abbrev second : List ℕ
  second = exact_table times (latencies_of table es) n (places_of es)

  befores_long : length (befores_of es) ≡ n
  unfolding befores_of
  befores_long = length_listed (length es) (before_at es) ∙ sym size

  sends_long : length (places_of es) ≡ n
  sends_long = length_places es ∙ sym size

  originals_long : length (originals_of es) ≡ n
  unfolding originals_of
  originals_long = length_listed (length es) (original_at es) ∙ sym size

  agree : First (waits_of (originals_of es) (befores_of es) (gaps_of share es) (places_of es) (latencies_of table es)) (paper.waits_of share table es)
  unfolding places_of
  agree = tables_agree share table es (record { are_originals = refl; are_befores = refl; are_gaps = gaps_at share es; are_sends = refl; are_latencies = refl })

  single_first : OneEach first
  single_first = rw befores_long at (exact_single times (gaps_of share es) (befores_of es) (befores_single es))

  single_second : OneEach second
  single_second = rw sends_long at (exact_single times (latencies_of table es) (places_of es) (sends_single es))

  -- by the fewest steps of each record
  way_chain : (ends : List ℕ) {ranks : List ℕ} → length ends ≡ n → (place : ℕ) → place < n
      → (OneEach first → OneEach second → Ranked n first second (end_ranks (originals_of es) times n ends) ranks)
      → way_at first second ranks place ≡ chain_of (paper.waits_of share table es) (time_at times) place
  unfolding chain_of paper.waits_of steps_of
  way_chain ends {ranks} long place place< ranked =
      let links = linked times (originals_of es) (befores_of es) (gaps_of share es) (places_of es) (latencies_of table es) ends (paper.waits_of share table es) agree originals_long
      befores_long sends_long long in
      rw (← size) (sym (chain_way _ n first second _ ranks links (ranked single_first single_second) place place<))

-- ---- as the functions leave them

module _ {share : ℕ} {table : List ℕ} {es : List Entry} {times : List ℤ} (size : length times ≡ length es) {spare : List ℤ}
    {before sends latency ranks after receive : List ℕ} (all : Rooms (length times) spare before sends latency ranks after receive)
    {before₁ sends₁ ranks₁ : List ℕ} {room : ℕ} (laid : Stepped share table es times sends ranks before₁ sends₁ ranks₁) where
  -- the slices are all of one length
  module _ (long-before : length before₁ ≡ length before) (long-sends : length sends₁ ≡ length sends) (long-ranks : length ranks₁ ≡ length ranks)
      (long-latency : room ≡ length latency) where
    enough : rankable (length ranks₁) (length before₁ ∷ length sends₁ ∷ room ∷ length after ∷ length receive ∷ []) ≡ true
    unfolding rankable all_are
    enough =
        let s = all.slices in
        rw (
          long-before ∙ s.all_before,
          long-sends ∙ s.all_sends,
          long-ranks ∙ s.all_ranks,
          long-latency ∙ s.all_latency,
          all.all_after,
          all.all_receive,
          lt-ltb (length times) too_many s.few,
          eq-eqb (length times) (length times) refl,
        )

    pub explained : {place : ℕ} → place < length times → {ranks₂ : List ℕ}
        → RankedInto (rankable (length ranks₁) (length before₁ ∷ length sends₁ ∷ room ∷ length after ∷ length receive ∷ [])) (length ranks₁)
        before₁ sends₁ ranks₁ ranks₂
        → {list : List ℕ} {r : Filled} {list' : List ℕ} → filling r list' ≡ on_list (way_at before₁ sends₁ ranks₂ place) list
        → ExplainedBy share table es times sends place list r list'
    explained {place} place< {ranks₂} counts {list} filled =
        record {
          gives = λ few is.
              let whole = rw (long-ranks ∙ all.slices.all_ranks) at (counts.counts enough).ranked in
              let ranked = rw (laid.by_processor few, laid.by_send, laid.at_original, is) at whole in
              let way = way_chain share table es times size ranks all.slices.all_ranks place place< ranked in
              filled ∙ ap (λ (c : List ℕ). on_list c list) (rw (laid.by_processor few, laid.by_send, is) way);
        }
