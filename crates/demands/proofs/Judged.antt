-- What the judging makes of what a call reaches: the same refusal, or 16, or acceptance.
use Prim.Native.Nat.{◌<◌}
use mathlib.Core.Path.{◌≡◌, ap, ◌∙◌}
use lib.ListN.{length}
use borrow.Author.Tests.{lt-ltb, le-ltb}
use Rattle.paper.specs.Columns.{nowhere}
use Rattle.paper.specs.Answer.{Inputs, given, Found, stopped, found, reach, refused, accepted, written, on_written, conclude, judge}
use Rattle.paper.specs.declared.Fault.{Fault}
use Rattle.paper.specs.declared.Site.{Site}
use Rattle.demands.specs.Steps.{Accepted}
use Rattle.demands.proofs.Reached.{found_by, reach_found}

module _ (i : Inputs) where
  pub judge_stopped : (fault : Fault) (s : Site) → reach (given i) ≡ stopped fault s → judge i ≡ refused i fault s
  unfolding judge conclude
  judge_stopped fault s e = ap (conclude i) e

  module _ (f : Found) (e : reach (given i) ≡ found f) where
    judge_found : judge i ≡ on_written i f (written i f.choice f.times)
    unfolding judge conclude
    judge_found = ap (conclude i) e

    pub judge_room : length i.room < length (written i f.choice f.times) → judge i ≡ refused i Fault.NoRoom nowhere
    unfolding on_written
    judge_room l = judge_found ∙ rw (lt-ltb _ _ l)

  pub judge_accepted : (a : Accepted i)
      → judge i ≡ accepted i (found_by i a.choice a.rounds a.times) (written i a.choice a.times)
  unfolding on_written
  judge_accepted a =
      judge_found (found_by i a.choice a.rounds a.times) (reach_found i a.choice a.matched a.rounds a.times a.settles)
      ∙ rw (le-ltb _ _ a.room)
