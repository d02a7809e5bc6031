-- Each statement leaves one answer.
use Prim.Native.Nat.{ℕ}
use mathlib.Core.Path.{◌≡◌, sym, ◌∙◌}
use Rattle.paper.specs.declared.Answer.{Answer}
use Rattle.paper.specs.declared.Fault.{Fault}
use Rattle.paper.specs.declared.Site.{Site}
use Rattle.answer.specs.declared.Counts.{Counts}
use Rattle.answer.specs.Answers.{refusal, acceptance}

pub one_refusal : (fault : Fault) (site : Site) (r q : Answer) → r ≡ refusal fault site → q ≡ refusal fault site → r ≡ q
one_refusal fault site r q e f = e ∙ sym f

pub one_acceptance : (counts : Counts) (written : ℕ) (r q : Answer) → r ≡ acceptance counts written → q ≡ acceptance counts written → r ≡ q
one_acceptance counts written r q e f = e ∙ sym f
