-- A line that all programs have in common, in a room that is wide enough.
use Prim.Native.Nat.{ℕ}
use native.Mathlib.Omega.{arith}
use mathlib.Core.Path.{◌≡◌}
use mathlib.Core.List.{List}
use lib.ListN.{length, take}
use Rattle.report.specs.Put.{Put}
use Rattle.report.specs.Said.{Spoken, said_shown}
use Rattle.report.specs.declared.Said.{Said}
use Rattle.lines.specs.Adding.{Added}
use Rattle.lines.proofs.Adding.{line_added}
use Rattle.showing.specs.Shown.{Wide}

pub said_into : {said : Said} {blank line room after : List ℕ} {n end : ℕ} → Spoken said blank n line → length blank ≡ 256 → Wide room
    → Added room 0 (take n line) end after → Put room 0 (said_shown said) end after
unfolding Wide
said_into s long wide added = (line_added (record { put = s.put; counts = s.counts }) long (omega arith) added).put

pub wide : (room : List ℕ) → length room ≡ 524544 → Wide room
unfolding Wide
wide room e = omega arith
