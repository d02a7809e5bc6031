-- A table of the processors that hold records.
use Rattle.std.specs.Prelude.{ℕ, ◌<◌, ◌≡◌, Bool, false, List, length, get_or}
use Rattle.paper.specs.Merging.{holds_on}
use Rattle.paper.specs.declared.Entry.{Entry}

pub record Held (es : List Entry) (table : List Bool) : Type 0 where
  pub all : length table ≡ 64
  pub each : (p : ℕ) → p < 64 → get_or table p false ≡ holds_on p es
