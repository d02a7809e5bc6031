-- The statement of the comparison leaves one answer.
use Rattle.std.specs.Prelude.{Result}
use Rattle.std.proofs.Common.{◌≡◌, ℕ, List, sym, ◌∙◌}
use Rattle.paper.specs.Reading.{lines_of}
use Rattle.paper.specs.Statistics.{compared_from}
use Rattle.paper.specs.declared.Entry.{Entry}
use Rattle.paper.specs.declared.Refusal.{Refusal}

pub one_stop : (trace : List ℕ) (es : List Entry) (r q : Result Unit Refusal) → r ≡ compared_from (lines_of trace) es 0 es → q ≡ compared_from (lines_of trace) es 0 es → r ≡ q
one_stop trace es r q p s = p ∙ sym s
