use mathlib.Core.Path.{sym}
use Rattle.store.proofs.Laws.{length_entries}
use Rattle.chain.proofs.Explained.{explained}
use Rattle.chain.proofs.exact.Records.explain_in.Goals as goal

pub returns : goal.returns
returns c =
    let kept = c.steps_into.auto in
    explained (sym (length_entries _ _)) c.requires.rooms c.steps_into.ensures kept.before kept.sends kept.ranks kept.latency
    c.requires.place_in_bounds c.ranks_into.ensures c.fill.ensures
