-- The three demands hold. specs/ says what each field is, with the demand's sentence.
use mathlib.Core.Path.{sym, ◌∙◌}
use Rattle.matching.proofs.Own.{own_send}
use Rattle.demands.specs.Steps.{entries}
use Rattle.demands.specs.Switched.{switched_off}
use Rattle.demands.specs.Demand1.{Demand1}
use Rattle.demands.specs.Demand2.{Demand2}
use Rattle.demands.specs.Demand3.{Demand3}
use Rattle.demands.proofs.Exactly.{answered}
use Rattle.demands.proofs.Refusals.{accepted_exactly, refused_exactly, column_exactly, refusal_keeps}
use Rattle.demands.proofs.Accepted.{accepted_answer}
use Rattle.demands.proofs.Sends.{sent}
use Rattle.demands.proofs.Again.{stamps_only, steady, again_on}
use Rattle.demands.proofs.Times.{earliest}
use Rattle.demands.proofs.Impossible.{matched_number, impossible_exactly}
use Rattle.demands.proofs.FirstLines.{times_stay}
use Rattle.demands.proofs.Raised.{none_earlier, stays_impossible}

pub demand_1 : Demand1
demand_1 =
    record {
      answered = answered;
      accepted = accepted_exactly;
      refused = refused_exactly;
      columns = column_exactly;
      kept = refusal_keeps;
      one_outcome = λ i a b p q. p ∙ sym q;
    }

pub demand_2 : Demand2
demand_2 =
    record {
      read = λ i choice c e. accepted_answer i ((accepted_exactly i).0 e) choice c;
      send = λ i choice m. sent (entries i choice) m.matches;
      own = λ i choice j k l. own_send (entries i choice) k l j;
      stamps = λ i choice c e wanted. stamps_only i ((accepted_exactly i).0 e) wanted choice c;
      again = λ i e wanted short. steady i ((accepted_exactly i).0 e) wanted short;
      again_compared = λ i e wanted short j on g. again_on i j on (steady i ((accepted_exactly i).0 e) wanted short (switched_off j) g);
    }

pub demand_3 : Demand3
demand_3 =
    record {
      earliest = λ i choice c e. earliest i ((accepted_exactly i).0 e) choice c;
      given = matched_number;
      impossible = impossible_exactly;
      first_lines = λ i j longer e f. times_stay i j longer ((accepted_exactly i).0 e) ((accepted_exactly j).0 f);
      raised_later = λ i j raised e f. none_earlier i j raised ((accepted_exactly i).0 e) ((accepted_exactly j).0 f);
      raised_impossible = stays_impossible;
    }
