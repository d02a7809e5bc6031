-- The seventh change request of its two calls, for any bytes, any table, any numbers, any place and any list.
use Rattle.std.specs.Prelude.{ℕ, ◌≤◌, ◌<◌, ◌≡◌, ◌⊎◌, ◌↔◌, List, length, drop}
use Rattle.paper.specs.Numbers.{number_of}
use Rattle.paper.specs.Messages.{messages}
use Rattle.paper.specs.Chain.{chain_of, chain}
use Rattle.paper.specs.Filling.{Query, Filling}
use Rattle.paper.specs.declared.Choice.{Choice}
use Rattle.paper.specs.declared.Fault.{Fault}
use Rattle.paper.specs.declared.Pair.{Pair}
use Rattle.paper.specs.declared.Site.{Site}
use Rattle.demands.specs.Parts as judged
use Rattle.demands.specs.Steps.{Accepted, Chosen, entries, waits}
use Rattle.causes.specs.Choice.{Chain}
use Rattle.causes.specs.Calls.{judging, number, site, filled, items, rest}
use Rattle.causes.specs.Table.{MessagesWhen, ChainWhen}
use Rattle.causes.specs.Listed.{Messages}

-- "Refusals touch no list"
pub record Untouched {A : Type 0} (list : List A) (r : Filling A) : Type 0 where
  pub none : filled r ≡ 0
  pub same : r.list ≡ list

-- "places after the filled ones stay"
pub record FilledBy {A : Type 0} (list : List A) (r : Filling A) : Type 0 where
  pub places : length r.list ≡ length list
  pub fits : filled r ≤ length list
  pub stay : rest r ≡ drop (filled r) list

pub record MessagesFill (q : Query) (list : List Pair) : Type 0 where
  -- every call gets an answer: 0, or a row of the table
  pub answered : (number (messages q list) ≡ 0) ⊎ ((fault : Fault) × (s : Site) × MessagesWhen q list fault s)
  -- exactly when the row says so
  pub refused : (fault : Fault) (s : Site) → ((number (messages q list) ≡ number_of fault) × (site (messages q list) ≡ s)) ↔ MessagesWhen q list fault s
  pub kept : ¬ (number (messages q list) ≡ 0) → Untouched list (messages q list)
  -- "For an accepted trace": the judging call accepts it, and the list has a place for each message
  pub accepted : (number (messages q list) ≡ 0) ↔ (Accepted (judging q) × (judged.matched (judging q) ≤ length list))
  pub after : number (messages q list) ≡ 0 → FilledBy list (messages q list)
  pub many : number (messages q list) ≡ 0 → filled (messages q list) ≡ judged.matched (judging q)
  pub listed : (choice : Choice) → Chosen (judging q) choice → number (messages q list) ≡ 0
      → Messages (entries (judging q) choice) (items (messages q list))
  -- and that leaves one list
  pub only : (choice : Choice) → Chosen (judging q) choice → number (messages q list) ≡ 0
      → (other : List Pair) → Messages (entries (judging q) choice) other → other ≡ items (messages q list)
  pub one_answer : (a b : Filling Pair) → a ≡ messages q list → b ≡ messages q list → a ≡ b

pub record ChainFills (q : Query) (place : ℕ) (list : List ℕ) : Type 0 where
  pub answered : (number (chain q place list) ≡ 0) ⊎ ((fault : Fault) × (s : Site) × ChainWhen q place list fault s)
  pub refused : (fault : Fault) (s : Site)
      → ((number (chain q place list) ≡ number_of fault) × (site (chain q place list) ≡ s)) ↔ ChainWhen q place list fault s
  pub kept : ¬ (number (chain q place list) ≡ 0) → Untouched list (chain q place list)
  -- "For an accepted trace" and one of its records, where the list has a place for each record of the chain
  pub accepted : (number (chain q place list) ≡ 0) ↔ ((a : Accepted (judging q)) × (place < judged.listed (judging q))
      × (length (chain_of (waits (judging q) a.choice) (judged.time (judging q)) place) ≤ length list))
  pub after : number (chain q place list) ≡ 0 → FilledBy list (chain q place list)
  -- the filled places are the chain of the record, at the corrected times of the judging call
  pub listed : (choice : Choice) → Chosen (judging q) choice → number (chain q place list) ≡ 0
      → Chain (waits (judging q) choice) (judged.time (judging q)) place (items (chain q place list))
  pub one_answer : (a b : Filling ℕ) → a ≡ chain q place list → b ≡ chain q place list → a ≡ b

pub record Shows : Type 0 where
  pub shows_messages : (q : Query) (list : List Pair) → MessagesFill q list
  pub shows_chain : (q : Query) (place : ℕ) (list : List ℕ) → ChainFills q place list
