-- The eighth change request: "A further number, 0 for off or 1 for on, otherwise refusal 1, switches the comparison". It switches nothing
-- else.
use Rattle.std.specs.Prelude.{◌≡◌, ◌⊎◌}
use Rattle.paper.specs.Answer.{Inputs, judge}
use Rattle.paper.specs.declared.Asked.{Asked}
use Rattle.demands.specs.Parts.{number}

-- the same with the comparison off
abbrev pub uncompared : Asked → Asked
uncompared a =
    record { choice = a.choice; levels = a.levels; picl = a.picl; user = a.user; trace = a.trace; statistics = 0; share = a.share }

abbrev pub switched_off : Inputs → Inputs
switched_off i =
    record { trace = i.trace; latencies = i.latencies; asked = uncompared i.asked; times = i.times; wanted = i.wanted; room = i.room }

pub record Switched : Type 0 where
  -- "0 for off": nothing differs
  pub off : (i : Inputs) → i.asked.statistics ≡ 0 → ¬ (number i ≡ 19)
  -- "1 for on": 19, or all that the call comes to with the comparison off
  pub on : (i : Inputs) → i.asked.statistics ≡ 1 → (number i ≡ 19) ⊎ (judge i ≡ judge (switched_off i))
  pub otherwise : (i : Inputs) → ¬ (i.asked.statistics ≡ 0) → ¬ (i.asked.statistics ≡ 1) → number i ≡ 1
