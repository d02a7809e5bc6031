-- The call that lists the messages: it comes to what its row says, or fills the list.
use Prim.Native.Nat.{◌≤◌, ◌<◌}
use native.Mathlib.Omega.{arith}
use native.Mathlib.Decide.{dec_lt}
use mathlib.Core.Path.{◌≡◌, sym, ◌∙◌}
use mathlib.Core.Logic.{◌⊎◌, inl, inr}
use mathlib.Core.List.{List}
use lib.ListN.{length}
use Rattle.paper.specs.Columns.{nowhere}
use Rattle.paper.specs.Filling.{Query, untouched, on_list}
use Rattle.paper.specs.Messages.{messages_of, messages}
use Rattle.paper.specs.declared.Choice.{Choice}
use Rattle.paper.specs.declared.Fault.{Fault}
use Rattle.paper.specs.declared.Pair.{Pair}
use Rattle.paper.specs.declared.Site.{Site}
use Rattle.demands.specs.Parts.{matched}
use Rattle.demands.specs.Steps.{Accepted, Chosen, entries, waits}
use Rattle.demands.specs.Table.{When}
use Rattle.demands.proofs.Exactly.{answered}
use Rattle.demands.proofs.Accepted.{matched_is}
use Rattle.causes.specs.Calls.{judging}
use Rattle.causes.specs.Table.{MessagesWhen, of_trace, short}
use Rattle.causes.specs.Listed.{Messages}
use Rattle.causes.proofs.Messages.{messages_are}
use Rattle.causes.proofs.Judged.{its_choice, fill_stops, fill_found}
use Rattle.causes.proofs.Fills.{Fills, list_short, list_fits}

module _ (q : Query) (list : List Pair) where
  -- ---- "For an accepted trace"

  module _ (a : Accepted (judging q)) where
    abbrev pub its : List Pair
    its = messages_of (waits (judging q) a.choice)

    call_found : messages q list ≡ on_list its list
    unfolding messages judging
    call_found = fill_found q list _ a

    are : Messages (entries (judging q) a.choice) its
    are = messages_are (entries (judging q) a.choice) a.matched.matches (judging q).asked.share (judging q).latencies

    pub its_many : length its ≡ matched (judging q)
    its_many = are.many ∙ sym (matched_is (judging q) a)

    pub its_messages : (choice : Choice) → Chosen (judging q) choice → Messages (entries (judging q) choice) its
    its_messages choice c = rw (its_choice q a choice c) are

  -- ---- the table

  stops : (fault : Fault) (s : Site) → MessagesWhen q list fault s → messages q list ≡ untouched list fault s
  unfolding messages
  stops fault s (of_trace when) = fill_stops q list _ fault s when
  stops fault s (short a l) = call_found a ∙ list_short (its a) list (omega (arith, its_many a))

  abbrev pub MessagesFit : Type 0
  MessagesFit = Accepted (judging q) × (matched (judging q) ≤ length list)

  abbrev Row : Type 0
  Row = (fault : Fault) × (s : Site) × MessagesWhen q list fault s

  some_row : MessagesFit ⊎ Row
  some_row = go (answered (judging q))
    where
      on_list_lem : Accepted (judging q) → Dec (length list < matched (judging q)) → MessagesFit ⊎ Row
      on_list_lem a (yes l) = inr (Fault.NoRoom, nowhere, short a l)
      on_list_lem a (no l) = inl (a, omega arith)

      go : Accepted (judging q) ⊎ ((fault : Fault) × (s : Site) × When (judging q) fault s) → MessagesFit ⊎ Row
      go (inl a) = on_list_lem a (dec_lt _ _)
      go (inr (fault, s, when)) = inr (fault, s, of_trace when)

  pub messages_fill : Fills list (messages q list) (MessagesWhen q list) MessagesFit (λ (a, l). its a)
  messages_fill =
      record {
        answered = some_row;
        stops = stops;
        fits = λ (a, l). omega (arith, its_many a);
        fills = λ (a, l). call_found a ∙ list_fits (its a) list (omega (arith, its_many a));
      }
