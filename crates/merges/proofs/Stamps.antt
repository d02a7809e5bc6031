-- The timestamp by which a line is merged is the time that its record has, and of any line that is not refused what its third field says.
use Rattle.std.specs.Prelude.{Some}
use Prim.Native.Nat.{ℕ}
use mathlib.Core.Path.{◌≡◌, refl, ap}
use mathlib.Core.List.{List}
use Rattle.paper.specs.Forms.{time_of}
use Rattle.paper.specs.Line.{field, after, Begun, bad, six, head_of, begun, line_of}
use Rattle.paper.specs.Merging.{stamp_of}
use Rattle.paper.specs.declared.Choice.{Choice}
use Rattle.paper.specs.declared.Line.TheVariants.{Listed}
use Rattle.paper.specs.declared.Record.{Record}
use Rattle.forms.proofs.Tests.{never}
use Rattle.reading.proofs.Stamp.{timed_head, timed_line}
use Rattle.merges.specs.Stamps.{RefusedLine, Stamped}

module _ (choice : Choice) (l : List ℕ) where
  -- a line that does not begin well is refused
  pub stamp_third : ¬ RefusedLine choice l → time_of (field (after (after l))) ≡ Some (stamp_of l)
  unfolding line_of begun stamp_of
  stamp_third good = go (head_of l) refl
    where
      go : (x : Begun) → head_of l ≡ x → time_of (field (after (after l))) ≡ Some (stamp_of l)
      go (bad fault k) e = absurd (good (fault, Some k, ap (begun choice) e))
      go (six h fields) e = rw (timed_head l h fields e).stamp

  -- the third field is the time of the record as well
  pub stamp_listed : (r : Record) → line_of choice l ≡ Listed r → stamp_of l ≡ r.time
  stamp_listed r e =
      let read = (timed_line choice l r e).stamp in
      let its_own = stamp_third (λ (fault, spot, refused). never (cc)) in
      cc

  pub stamped : Stamped choice l
  stamped = record { listed = stamp_listed; third = stamp_third }
