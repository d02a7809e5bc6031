-- What the seventh change request and its reading say of the messages and of the chain of a record, and the ninth of the gaps in it: each a
-- call from the bytes of a trace, with its answer and the whole list afterwards.
use Rattle.std.specs.Prelude.{ℕ, ◌≡◌, List, [], ◌∷◌, set, replicate, pos}
use Prim.Native.String.{String}
use Rattle.paper.specs.Filling.{Query, Filling, query, filling}
use Rattle.paper.specs.Messages.{messages}
use Rattle.paper.specs.Chain.{chain}
use Rattle.paper.specs.declared.Pair.{Pair}
use Rattle.samples.specs.Samples.{trace_a, trace_b, spaced, joined, everywhere, entry0}

-- ---- the traces

-- sends at 10 on processors 0 and 1 to 2, and two receives at 0 there
abbrev two : List String
two =
    "-3 -21 0.000010 0 0 3 2 8 1 2\n"
    ∷ "-3 -21 0.000010 1 0 3 2 8 1 2\n"
    ∷ "-4 -52 0.000000 2 0 3 2 8 1 0\n"
    ∷ "-4 -52 0.000000 2 0 3 2 8 1 1\n"
    ∷ []

-- from the last record two ways of three steps lead back, the processor's by 5 and 4 and the send's by 3 and 2
abbrev tie : List String
tie =
    "-3 -21 0.000010 0 0 3 2 8 1 2\n"
    ∷ "-3 -21 0.000010 0 0 3 2 8 2 1\n"
    ∷ "-4 -52 0.000000 1 0 3 2 8 2 0\n"
    ∷ "-3 -21 0.000000 1 0 3 2 8 3 2\n"
    ∷ "-4 -52 0.000000 2 0 3 2 8 1 0\n"
    ∷ "-3 5 0.000000 2 0 0\n"
    ∷ "-4 -52 0.000000 2 0 3 2 8 3 1\n"
    ∷ []

-- a message to oneself, behind a record that is passed over
abbrev own : List String
own = "-5 5 0.000000 0 0 0\n" ∷ "-3 -21 0.000010 0 0 3 2 8 1 0\n" ∷ "-4 -52 0.000012 0 0 3 2 8 1 0\n" ∷ []

-- ---- the calls

abbrev asking : ℕ → List String → List ℕ → Query
asking choice trace table =
    query (joined trace) table (record { choice = choice; levels = 0; picl = pos 0; user = pos 0; trace = pos 0; statistics = 0; share = 0 })

-- at this share
abbrev keeping : ℕ → List String → List ℕ → Query
keeping share trace table =
    query (joined trace) table (record { choice = 1; levels = 0; picl = pos 0; user = pos 0; trace = pos 0; statistics = 0; share = share })

-- a list of so many 7s, which none of these traces has for a place
abbrev lent : ℕ → List ℕ
lent n = replicate n 7

abbrev pair : ℕ → ℕ → Pair
pair send receive = record { send = send; receive = receive }

abbrev lent_pairs : ℕ → List Pair
lent_pairs n = replicate n (pair 7 7)

-- ---- what they come to

abbrev refused : {A : Type 0} → (number line column : ℕ) → List A → Filling A
refused number line column list = filling (record { number = number; line = line; column = column; filled = 0 }) list

abbrev filled : {A : Type 0} → ℕ → List A → Filling A
filled n list = filling (record { number = 0; line = 0; column = 0; filled = n }) list

pub record Messaged : Type 0 where
  pub asks : Query
  pub list : List Pair
  pub comes : Filling Pair

unfoldable pub messaged : List Messaged
messaged =
    -- "in file order of receives"
    record { asks = asking 1 trace_a (everywhere 5); list = lent_pairs 3; comes = filled 2 (pair 0 2 ∷ pair 3 4 ∷ pair 7 7 ∷ []) }
    ∷ record { asks = asking 1 trace_b (everywhere 0); list = lent_pairs 2; comes = filled 2 (pair 3 0 ∷ pair 1 2 ∷ []) }
    ∷ record { asks = asking 1 tie (everywhere 0); list = lent_pairs 3; comes = filled 3 (pair 1 2 ∷ pair 0 4 ∷ pair 3 6 ∷ []) }
    ∷ record { asks = asking 2 own (everywhere 5); list = lent_pairs 1; comes = filled 1 (pair 0 1 ∷ []) }
    -- "then a list too short is 16"
    ∷ record { asks = asking 1 trace_a (everywhere 5); list = lent_pairs 1; comes = refused 16 0 0 (lent_pairs 1) }
    -- "A refused trace keeps its refusal"
    ∷ record { asks = asking 1 own (everywhere 5); list = lent_pairs 1; comes = refused 7 1 1 (lent_pairs 1) }
    ∷ record { asks = asking 1 trace_b (set (everywhere 0) 1 1); list = []; comes = refused 15 0 0 [] }
    ∷ record { asks = asking 1 trace_a []; list = lent_pairs 2; comes = refused 2 0 0 (lent_pairs 2) }
    -- without a message no place is needed
    ∷ record { asks = asking 1 (entry0 ∷ []) (everywhere 0); list = []; comes = filled 0 [] }
    ∷ record { asks = asking 1 [] (everywhere 0); list = lent_pairs 1; comes = filled 0 (lent_pairs 1) }
    ∷ []

pub record Chained : Type 0 where
  pub asks : Query
  pub place : ℕ
  pub list : List ℕ
  pub comes : Filling ℕ

unfoldable pub chained : List Chained
chained =
    -- "from that record back, step by step, to a record still at its original time"
    record { asks = asking 1 trace_a (everywhere 5); place = 4; list = lent 5; comes = filled 4 (4 ∷ 3 ∷ 2 ∷ 0 ∷ 7 ∷ []) }
    ∷ record { asks = asking 1 trace_a (everywhere 5); place = 4; list = lent 4; comes = filled 4 (4 ∷ 3 ∷ 2 ∷ 0 ∷ []) }
    -- "an unmoved record is alone in its chain"
    ∷ record { asks = asking 1 trace_a (everywhere 5); place = 1; list = lent 1; comes = filled 1 (1 ∷ []) }
    -- a ring of waits
    ∷ record { asks = asking 1 trace_b (everywhere 0); place = 2; list = lent 4; comes = filled 4 (2 ∷ 1 ∷ 0 ∷ 3 ∷ []) }
    -- "Give one with the fewest steps": going by "the processor first" alone is wrong
    ∷ record { asks = asking 1 two (everywhere 0); place = 3; list = lent 3; comes = filled 2 (3 ∷ 1 ∷ 7 ∷ []) }
    -- "and among those, at the first step where two differ, the processor's step before the send's"
    ∷ record { asks = asking 1 tie (everywhere 0); place = 6; list = lent 4; comes = filled 4 (6 ∷ 5 ∷ 4 ∷ 0 ∷ []) }
    -- where the send takes a microsecond, the send's way is the only one that adds up
    ∷ record { asks = asking 1 tie (set (everywhere 0) 66 1); place = 6; list = lent 4; comes = filled 4 (6 ∷ 3 ∷ 2 ∷ 1 ∷ []) }
    -- the send is also the record before, and places count listed records, not lines
    ∷ record { asks = asking 2 own (everywhere 5); place = 1; list = lent 2; comes = filled 2 (1 ∷ 0 ∷ []) }
    -- "then a place not below the listed count is 22, line 0; then a list too short is 16"
    ∷ record { asks = asking 1 trace_a (everywhere 5); place = 5; list = []; comes = refused 22 0 0 [] }
    ∷ record { asks = asking 1 trace_a (everywhere 5); place = 6; list = lent 5; comes = refused 22 0 0 (lent 5) }
    ∷ record { asks = asking 1 trace_a (everywhere 5); place = 4; list = lent 3; comes = refused 16 0 0 (lent 3) }
    ∷ record { asks = asking 1 [] (everywhere 0); place = 0; list = lent 1; comes = refused 22 0 0 (lent 1) }
    -- "A refused trace keeps its refusal"
    ∷ record { asks = asking 3 trace_a (everywhere 5); place = 9; list = []; comes = refused 1 0 0 [] }
    -- "the chain of request 7 .. read[s] this new condition": the last step is a gap, 17 is 10 with 5 for the send and 2 for the gap
    ∷ record { asks = keeping 1000 trace_a (everywhere 5); place = 3; list = lent 3; comes = filled 3 (3 ∷ 2 ∷ 0 ∷ []) }
    -- 23 is 20 with nothing for the send, none of the gap of 1 and 3 of the gap of 7
    ∷ record { asks = keeping 500 spaced (everywhere 0); place = 3; list = lent 4; comes = filled 4 (3 ∷ 2 ∷ 1 ∷ 0 ∷ []) }
    ∷ record { asks = keeping 1000 trace_b (everywhere 0); place = 2; list = lent 4; comes = refused 15 0 0 (lent 4) }
    ∷ record { asks = keeping 1001 trace_a (everywhere 5); place = 9; list = []; comes = refused 2 0 0 [] }
    ∷ []

-- each comes to what it should
unfoldable pub Messages : List Messaged → Type 0
Messages [] = Unit
Messages (m ∷ ms) = (messages m.asks m.list ≡ m.comes) × Messages ms

unfoldable pub Chains : List Chained → Type 0
Chains [] = Unit
Chains (c ∷ cs) = (chain c.asks c.place c.list ≡ c.comes) × Chains cs
