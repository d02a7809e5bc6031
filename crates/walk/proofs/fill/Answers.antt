use Rattle.walk.proofs.Ways.{chain_none, chain_short, chain_filled}
use Rattle.walk.proofs.fill.Goals as goal
use Rattle.walk.proofs.fill.Goals.{then-count-ne0+then-count-places, else-count-ne0, else-count-ne0-via-then-count-ne0+else-count-places, else-count-ne0-via-else-count-ne0}

pub returns : goal.returns
returns c =
    let is = c.count_at-count.ensures in
    let told = c.filled_list.ensures in
    elim c.if-count-ne0.branch [
      | then-count-ne0+then-count-places w ↦
          rw w.list-is (chain_filled _ _ _ _ _ is w.if-count-ne0.true w.if-count-places.true w.walk.ensures told)
      | else-count-ne0 w ↦
          rw w.list-is
          (elim w.else-count-ne0.branch [
            | else-count-ne0-via-then-count-ne0+else-count-places way ↦ chain_short _ _ _ _ _ is way.if-count-places.false told
            | else-count-ne0-via-else-count-ne0 way ↦ chain_none _ _ _ _ _ is way.if-count-ne0.false told
          ])
    ]
