-- A listed record with its times, as the lines tell of it.
use Rattle.std.specs.Prelude.{ℕ, List, ℤ}
use Rattle.paper.specs.Matching.{entry_at}
use Rattle.paper.specs.declared.Entry.{Entry}
use Rattle.lines.specs.declared.Stamped.{Stamped}

unfoldable pub stamped_at : List Entry → (ℕ → ℤ) → ℕ → Stamped
stamped_at es x i =
    record {
      line = (entry_at es i).line;
      processor = (entry_at es i).body.processor;
      original = (entry_at es i).body.time;
      corrected = x i;
    }
