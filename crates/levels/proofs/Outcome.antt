-- The statement leaves one answer.
use Rattle.std.specs.Prelude.{Result}
use mathlib.Core.Path.{◌≡◌, sym, ◌∙◌}
use mathlib.Core.List.{List}
use Rattle.paper.specs.Levels.{levels_of}
use Rattle.paper.specs.declared.Asked.{Asked}
use Rattle.paper.specs.declared.Entry.{Entry}
use Rattle.paper.specs.declared.Refusal.{Refusal}

pub one_stop : (a : Asked) (es : List Entry) (r q : Result Unit Refusal) → r ≡ levels_of a es → q ≡ levels_of a es → r ≡ q
one_stop a es r q e f = e ∙ sym f
