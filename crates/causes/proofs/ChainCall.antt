-- The call that gives a record's chain: it comes to what its row says, or fills the list.
use Prim.Native.Nat.{ℕ, ◌≤◌, ◌<◌}
use native.Mathlib.Omega.{arith}
use native.Mathlib.Decide.{dec_lt}
use mathlib.Core.Path.{◌≡◌, sym, ◌∙◌}
use mathlib.Core.Logic.{◌⊎◌, inl, inr}
use mathlib.Core.List.{List}
use lib.ListN.{length}
use lib.IntN.{ℤ}
use borrow.Author.Tests.{lt-ltb, le-ltb}
use Rattle.paper.specs.Clock.{Waits, time_at}
use Rattle.paper.specs.Columns.{nowhere}
use Rattle.paper.specs.Matching.{waits_of}
use Rattle.paper.specs.Filling.{Query, untouched, on_list}
use Rattle.paper.specs.Chain.{chain_of, on_place, chain}
use Rattle.paper.specs.declared.Choice.{Choice}
use Rattle.paper.specs.declared.Fault.{Fault}
use Rattle.paper.specs.declared.Site.{Site}
use Rattle.rounds.specs.Meaning.{Closed}
use Rattle.rounds.proofs.Meaning.{settled_round}
use Rattle.rounds.proofs.Stops.{sound_same}
use Rattle.demands.specs.Parts.{listed, time}
use Rattle.demands.specs.Steps.{Accepted, Chosen, waits}
use Rattle.demands.specs.Table.{When}
use Rattle.demands.proofs.Exactly.{answered}
use Rattle.demands.proofs.Times.{closed, listed_is, answer, time_is}
use Rattle.causes.specs.Choice.{Chain}
use Rattle.causes.specs.Calls.{judging}
use Rattle.causes.specs.Table.{ChainWhen, of_trace, no_place, short}
use Rattle.causes.proofs.Chains.{chain_said}
use Rattle.causes.proofs.Agree.{chain_agrees}
use Rattle.causes.proofs.Judged.{its_choice, fill_stops, fill_found}
use Rattle.causes.proofs.Fills.{Fills, list_short, list_fits}

module _ (q : Query) (place : ℕ) (list : List ℕ) where
  -- ---- "For an accepted trace"

  module _ (a : Accepted (judging q)) where
    abbrev w : Waits
    w = waits (judging q) a.choice

    abbrev x : ℕ → ℤ
    x = time (judging q)

    abbrev pub its : List ℕ
    its = chain_of w x place

    size : w.size ≡ listed (judging q)
    unfolding waits_of
    size = sym (listed_is (judging q) a)

    inward : Closed w
    inward = closed (judging q) a.choice

    -- the first lent places hold the records' times
    lent : (k : ℕ) → k < w.size → time_at a.times k ≡ x k
    unfolding waits_of
    lent k k< = sym (time_is (judging q) a k k<)

    call_found : chain q place list ≡ on_place w (time_at a.times) place list
    unfolding chain judging
    call_found = fill_found q list _ a

    call_no_place : listed (judging q) ≤ place → chain q place list ≡ untouched list Fault.NoPlace nowhere
    unfolding on_place
    call_no_place l = call_found ∙ rw (le-ltb place w.size (rw size l))

    module _ (inside : place < listed (judging q)) where
      place< : place < w.size
      place< = rw size inside

      call_place : chain q place list ≡ on_list its list
      unfolding on_place
      call_place = call_found ∙ rw (lt-ltb place w.size place<, chain_agrees w inward (time_at a.times) x lent place place<)

      its_own : Chain w x place its
      its_own =
          let told = answer (judging q) a in
          chain_said w inward x (sound_same w inward (time_at a.times) x lent told.least.sound) place place< a.rounds
          (omega (arith, told.bound, place<)) (sym (settled_round w inward told place place<) ∙ lent place place<)

      pub its_chain : (choice : Choice) → Chosen (judging q) choice → Chain (waits (judging q) choice) x place its
      its_chain choice c = rw (its_choice q a choice c) its_own

  -- ---- the table

  stops : (fault : Fault) (s : Site) → ChainWhen q place list fault s → chain q place list ≡ untouched list fault s
  unfolding chain
  stops fault s (of_trace when) = fill_stops q list _ fault s when
  stops fault s (no_place a l) = call_no_place a l
  stops fault s (short a inside l) = call_place a (omega arith) ∙ list_short (its a) list l

  abbrev pub ChainFits : Type 0
  ChainFits = (a : Accepted (judging q)) × (place < listed (judging q)) × (length (its a) ≤ length list)

  abbrev Row : Type 0
  Row = (fault : Fault) × (s : Site) × ChainWhen q place list fault s

  some_row : ChainFits ⊎ Row
  some_row = go (answered (judging q))
    where
      on_list_lem : (a : Accepted (judging q)) → place < listed (judging q) → Dec (length list < length (its a)) → ChainFits ⊎ Row
      on_list_lem a inside (yes l) = inr (Fault.NoRoom, nowhere, short a (omega arith) l)
      on_list_lem a inside (no l) = inl (a, inside, omega arith)

      on_place_lem : Accepted (judging q) → Dec (place < listed (judging q)) → ChainFits ⊎ Row
      on_place_lem a (yes inside) = on_list_lem a inside (dec_lt _ _)
      on_place_lem a (no outside) = inr (Fault.NoPlace, nowhere, no_place a (omega arith))

      go : Accepted (judging q) ⊎ ((fault : Fault) × (s : Site) × When (judging q) fault s) → ChainFits ⊎ Row
      go (inl a) = on_place_lem a (dec_lt _ _)
      go (inr (fault, s, when)) = inr (fault, s, of_trace when)

  pub chain_fills : Fills list (chain q place list) (ChainWhen q place list) ChainFits (λ (a, inside, l). its a)
  chain_fills =
      record {
        answered = some_row;
        stops = stops;
        fits = λ (a, inside, l). l;
        fills = λ (a, inside, l). call_place a inside ∙ list_fits (its a) list l;
      }
