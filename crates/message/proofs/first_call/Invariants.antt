-- The invariant: the entries from i on give the whole answer.
use mathlib.Core.Path.{◌≡◌}
use lib.ListN.{length, drop}
use Rattle.paper.specs.Matching.{matched_from, matched_of}
use Rattle.store.specs.Layout.{entries_in}
use Rattle.message.proofs.first_call.Given as goal

abbrev pub invariant-loop-i : goal.invariant-loop-i
invariant-loop-i l = let es = entries_in l.store (length l.sends) in matched_from es l.i (drop l.i es) ≡ matched_of es
