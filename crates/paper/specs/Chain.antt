-- The seventh change request, its second half: "for one record, by its place from 0, give the chain that moved it: from that record back,
-- step by step, to a record still at its original time, each step to the record before it on its processor or to its send."
use Rattle.std.specs.Prelude.{ℕ, zero, suc, List, [], ◌∷◌, Bool, cond, length, ℤ, pos, ◌+ℤ◌, ltb, Option, Some, None, option_map, unwrap_or}
use Rattle.paper.specs.Tests.{eq_z}
use Rattle.paper.specs.Columns.{nowhere}
use Rattle.paper.specs.Clock.{Waits, time_at}
use Rattle.paper.specs.Matching.{waits_of}
use Rattle.paper.specs.Filling.{Query, Filling, untouched, on_list, fill}
use Rattle.paper.specs.declared.Fault.TheVariants as Fault

-- What a chain goes by: whether it ends at a record, and the record that the processor's step and the send's lead to from there.
pub record Steps : Type 0 where
  pub ends : ℕ → Bool
  pub processor : ℕ → Option ℕ
  pub send : ℕ → Option ℕ

-- "Starting time plus the chain's latencies equals the moved time", and the kept gaps with them (change request 9): a step is to a record that
-- is waited for exactly so long
unfoldable pub exactly : (x : ℕ → ℤ) (time : ℤ) (wait : ℕ) → Option ℕ → Option ℕ
exactly x time wait None = None
exactly x time wait (Some j) = cond (eq_z time (x j +ℤ pos wait)) (Some j) None

unfoldable pub steps_of : Waits → (ℕ → ℤ) → Steps
steps_of w x =
    record {
      ends = λ i. eq_z (x i) (w.original i);
      processor = λ i. exactly x (x i) (w.gap i) (w.before i);
      send = λ i. exactly x (x i) (w.latency i) (w.send i);
    }

-- "Give one with the fewest steps, and among those, at the first step where two differ, the processor's step before the send's": of a
-- chain by the processor and one by the send
unfoldable pub fewer : Option (List ℕ) → Option (List ℕ) → Option (List ℕ)
fewer None d = d
fewer (Some c) None = Some c
fewer (Some c) (Some d) = Some (cond (ltb (length d) (length c)) d c)

-- what a step's record leads to, where there is such a step
unfoldable pub onto : (ℕ → Option (List ℕ)) → Option ℕ → Option (List ℕ)
onto chain None = None
onto chain (Some j) = chain j

-- the chain of a record, where there is one of at most so many records
unfoldable pub chain_in : Steps → ℕ → ℕ → Option (List ℕ)
chain_in s zero i = None
chain_in s (suc most) i =
    let on = option_map (λ c. i ∷ c) (fewer (onto (chain_in s most) (s.processor i)) (onto (chain_in s most) (s.send i))) in
    cond (s.ends i) (Some (i ∷ [])) on

-- "no record occurs twice", so that it has at most as many records as there are
unfoldable pub chain_of : Waits → (ℕ → ℤ) → ℕ → List ℕ
chain_of w x i = unwrap_or (chain_in (steps_of w x) w.size i) []

-- "then a place not below the listed count is 22, line 0; then a list too short is 16"
unfoldable pub on_place : Waits → (ℕ → ℤ) → ℕ → List ℕ → Filling ℕ
on_place w x place list = cond (ltb place w.size) (on_list (chain_of w x place) list) (untouched list Fault.NoPlace nowhere)

unfoldable pub chain : Query → ℕ → List ℕ → Filling ℕ
chain q place list = fill q list (λ f. on_place (waits_of q.asked.share q.latencies f.reading.entries) (time_at f.times) place list)
