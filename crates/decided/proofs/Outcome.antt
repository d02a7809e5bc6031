-- Each statement leaves one answer.
use Rattle.std.specs.Prelude.{Result}
use mathlib.Core.Path.{◌≡◌, sym, ◌∙◌}
use mathlib.Core.Bool.{Bool}
use Rattle.paper.specs.declared.Answer.{Answer}
use Rattle.paper.specs.declared.Merged.{Merged}
use Rattle.report.specs.declared.Replied.{Replied}
use Rattle.report.specs.declared.Said.{Said}
use Rattle.decided.specs.Decided.{ready_of, storing, end_of, after_merging}
use Rattle.paper.specs.declared.Unmerged.{Unmerged}
use Rattle.paper.specs.declared.Joined.{Joined}

pub one_readiness : (read got fits : Bool) (r q : Result Unit Said) → r ≡ ready_of read got fits → q ≡ ready_of read got fits → r ≡ q
one_readiness read got fits r q e f = e ∙ sym f

pub one_storing : (wanted : Bool) (answer : Answer) (r q : Bool) → r ≡ storing wanted answer → q ≡ storing wanted answer → r ≡ q
one_storing wanted answer r q e f = e ∙ sym f

pub one_end : (storing stored : Bool) (answer : Answer) (r q : Said) → r ≡ end_of storing answer stored → q ≡ end_of storing answer stored → r ≡ q
one_end storing stored answer r q e f = e ∙ sym f

pub one_after_merging : (joint : Result Joined Unmerged) (merged : Merged) (stored : Bool) (r q : Replied) → r ≡ after_merging joint merged stored
    → q ≡ after_merging joint merged stored → r ≡ q
one_after_merging joint merged stored r q e f = e ∙ sym f
