use mathlib.Core.Path.{◌∙◌}
use borrow.Author.Rules.{rules}
use Rattle.writing.proofs.Moved.{stays, moves}
use Rattle.writing.proofs.moves.next_moved.Goals as goal

pub returns-then-old-times : goal.returns-then-old-times
returns-then-old-times c =
    record {
      low = search rules;
      stops = moves _ _ _ c.loop-i-test.true c.time_at-old.ensures (search rules) (search rules) c.if-old-times.true;
      skips = c.loop-i.invariant;
    }

pub loop-i-preserved : goal.loop-i-preserved
loop-i-preserved c =
    c.loop-i.invariant ∙ stays _ _ _ c.loop-i-test.true c.time_at-old.ensures (search rules) (search rules) c.if-old-times.false
