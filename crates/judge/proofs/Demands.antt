-- The three demands, of this crate's call: its statement is an equation with the definition `judge`, and what they say they say of
-- that. The words, with each demand's sentences, stand in the specs of `demands`.
use Rattle.demands.specs.Demand1.{Demand1}
use Rattle.demands.specs.Demand2.{Demand2}
use Rattle.demands.specs.Demand3.{Demand3}
use Rattle.demands.proofs.Demands as demands

pub demand_1 : Demand1
demand_1 = demands.demand_1

pub demand_2 : Demand2
demand_2 = demands.demand_2

pub demand_3 : Demand3
demand_3 = demands.demand_3
