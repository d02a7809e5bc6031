-- What is heard of a choice is one thing.
use Rattle.std.specs.Prelude.{ℕ, Option, ◌≡◌}
use mathlib.Core.Path.{sym, ◌∙◌}
use Rattle.paper.specs.Answer.{choice_of}
use Rattle.paper.specs.declared.Choice.{Choice}

pub one_heard : (n : ℕ) (r q : Option Choice) → r ≡ choice_of n → q ≡ choice_of n → r ≡ q
one_heard n r q e f = e ∙ sym f
