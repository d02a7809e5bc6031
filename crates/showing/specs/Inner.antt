-- What the function has in hand that goes by how far the call came.
use Rattle.std.specs.Prelude.{ℕ, List, ℤ, Result}
use Rattle.paper.specs.Answer.{reach}
use Rattle.paper.specs.Filling.{query, judged}
use Rattle.paper.specs.declared.Asked.{Asked}
use Rattle.reach.specs.Reach.{reaches}
use Rattle.report.specs.Put.{Put}
use Rattle.showing.specs.Shown.{on_trace}
use Rattle.showing.specs.declared.Shows.{Shows}
use Rattle.reach.specs.declared.Unreached.{Unreached}
use Rattle.answer.specs.declared.Counts.{Counts}

-- where the call came so far, it is what is said of the trace
unfoldable pub ConcludedBy : Shows → Asked → (trace latencies line : List ℕ) → Result Counts Unreached → (store sends : List ℕ) → List ℤ → (room : List ℕ) → ℕ → List ℕ → Type 0
ConcludedBy shows asked trace latencies line reached store sends new room end after =
    reaches trace (reach (judged (query trace latencies asked))) reached store sends new
    → Put room 0 (on_trace shows asked line trace latencies) end after
