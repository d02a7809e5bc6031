-- The engine run on the tables of a store: its answer is the paper's.
use Rattle.std.specs.Prelude.{Result, Ok, Err}
use Prim.Native.Nat.{ℕ, ◌≤◌, ◌<◌}
use native.Mathlib.Decide.{ℕ_discrete}
use mathlib.Core.Path.{◌≡◌, refl, sym, ap, ◌∙◌}
use mathlib.Core.List.{List, []}
use mathlib.Core.Bool.{Bool, true, false, cond}
use lib.ListN.{length, get_or}
use lib.Dec.{eqb}
use borrow.Author.Tests.{eq-eqb, ne_eqb}
use lib.IntN.{ℤ}
use Rattle.paper.specs.Tests.{all_up_to}
use Rattle.paper.specs.Clock as paper
use Rattle.paper.specs.Matching.{waits_of}
use Rattle.paper.specs.declared.Entry.{Entry}
use Rattle.store.specs.Layout.{entries_in}
use Rattle.store.proofs.Laws.{length_entries}
use Rattle.store.proofs.Listed.{length_listed}
use Rattle.clock.specs.Promise.{outcome, outcome_of}
use Rattle.engine.specs.Promise.{widest, gaps_for}
use Rattle.engine.specs.Inner.{Sized}
use Rattle.clock.proofs.Outcomes.{rounds_learnt, impossible_learnt, misfit_learnt}
use Rattle.chains.specs.Places.{places_of}
use Rattle.waits.specs.Tables.{gap_at, originals_of, befores_of, befores_into, gaps_of, gaps_by, gaps_into, latencies_of}
use Rattle.waits.proofs.Outcomes.{befores_few}
use Rattle.waits.proofs.Same.{same_settled}
use Rattle.waits.proofs.Gaps.{gaps_share, gaps_are, gaps_at, nothing_kept}
use Rattle.solve.specs.Outcome.{Keepable, kept_places, Tables, settled_by}
use Rattle.engine.specs.declared.Unsettled.{Unsettled}

module _ (store table : List ℕ) (share : ℕ) (sends : List ℕ) {before gap latency : List ℕ} (times : List ℤ) {spare : List ℤ}
    (tables : Tables share store sends before gap latency times spare) {o : List ℤ} {b g l : List ℕ} (all-o : o ≡ originals_of (entries_in store (length times))) (all_b : b ≡ befores_into store before) (all-g : g ≡ gaps_into share store b gap)
    (all-l : l ≡ latencies_of table (entries_in store (length latency))) where
  abbrev es : List Entry
  es = entries_in store (length times)

  b_is : b ≡ befores_of es
  b_is =
      let n = tables.all_before in
      let few : befores_into store before ≡ befores_of (entries_in store (length before)) = befores_few store before (rw n tables.few) in
      all_b ∙ rw n at few

  l_is : l ≡ latencies_of table es
  l_is = rw tables.all_latency at all-l

  -- where something is kept
  g_is : share ≤ 1000 → ¬ (share ≡ 0) → g ≡ gaps_of share es
  unfolding kept_places
  g_is few some-kept =
      let all : length gap ≡ length times = rw (ne_eqb share 0 some-kept) at tables.all_gap in
      all-g ∙ sym (gaps_share store b gap few) ∙ rw (all, b_is) (gaps_are share es)

  -- and where nothing is
  g_none : share ≤ 1000 → share ≡ 0 → g ≡ []
  unfolding kept_places gaps_by
  g_none few none_kept =
      let no_places : length gap ≡ 0 = rw (eq-eqb share 0 none_kept) at tables.all_gap in
      all-g ∙ sym (gaps_share store b gap few) ∙ rw (no_places, length_entries store 0)

  -- a table of the entries has a place for each record
  each : {A : Type 0} (f : ℕ → A) → length (paper.listed (length es) f) ≡ length times
  each f = length_listed (length es) f ∙ length_entries store (length times)

  long : length o ≡ length times
  unfolding originals_of
  long = ap length all-o ∙ each _

  module _ (keep : Keepable share es) where
    -- what holds of either table of gaps
    either : (P : List ℕ → Type 0) → (share ≡ 0 → P []) → (¬ (share ≡ 0) → P (gaps_of share es)) → P g
    either P none all = go (ℕ_discrete share 0)
      where
        go : Dec (share ≡ 0) → P g
        go (yes e) = rw (g_none keep.few e) (none e)
        go (no e) = rw (g_is keep.few e) (all e)

    gaps_held : (i : ℕ) → i < length es → get_or g i 0 ≡ gap_at share es i
    gaps_held =
        either (λ gs. (i : ℕ) → i < length es → get_or gs i 0 ≡ gap_at share es i) (λ e i l. rw e (sym (nothing_kept es i)))
        (λ e. gaps_at share es)

    gaps_fit : gaps_for (length times) (length g) ≡ length times
    unfolding gaps_for gaps_of
    gaps_fit =
        either (λ gs. gaps_for (length times) (length gs) ≡ length times) (λ e. refl)
        (λ e. rw (each (gap_at share es)) (go (eqb (length times) 0)))
      where
        go : (t : Bool) → cond t (length times) (length times) ≡ length times
        go true = refl
        go false = refl

    narrow : all_up_to widest g ≡ true
    unfolding all_up_to
    narrow = either (λ gs. all_up_to widest gs ≡ true) (λ e. refl) (λ e. keep.narrow)

    sized : Sized b g sends l o spare
    unfolding befores_of latencies_of places_of
    sized =
        record {
          befores = ap length b_is ∙ each _ ∙ sym long;
          gaps = rw long gaps_fit;
          sends = ap length tables.places ∙ each _ ∙ sym long;
          latencies = ap length l_is ∙ each _ ∙ sym long;
          spares = tables.all_spare ∙ sym long;
          narrow = narrow;
        }

    -- the engine's waits settle as the paper's
    paper_settles : paper.settle (Rattle.engine.specs.Promise.waits_of o b g sends l) ≡ paper.settle (waits_of share table es)
    paper_settles =
        same_settled share table es
        (record {
          are_originals = all-o;
          are_befores = b_is;
          are_gaps = gaps_held;
          are_sends = rw tables.places (unfold places_of in refl);
          are_latencies = l_is;
        })

    pub engine_answers : (r : Result ℕ Unsettled) (t s : List ℤ) → outcome r t s ≡ outcome_of b g sends l o spare → settled_by share table es r t
    unfolding settled_by
    engine_answers (Ok k) t s e = sym paper_settles ∙ (rounds_learnt _ _ _ _ _ _ _ _ k e).0
    engine_answers (Err Unsettled.Impossible) t s e = sym paper_settles ∙ (impossible_learnt _ _ _ _ _ _ _ _ e).0
    engine_answers (Err Unsettled.Misfit) t s e = misfit_learnt _ _ _ _ _ _ _ _ e sized
