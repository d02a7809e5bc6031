-- A record of the store as the lines tell of it.
use Prim.Native.Nat.{ℕ, ◌≤◌, ◌<◌}
use mathlib.Core.Path.{◌≡◌}
use mathlib.Core.List.{List}
use native.Mathlib.Omega.{arith}
use lib.ListN.{length, get_or, get_or-eq_default}
use lib.IntN.{ℤ, pos}
use Rattle.paper.specs.Clock.{time_at}
use Rattle.paper.specs.Matching.{entry_at, no_entry}
use Rattle.store.specs.Layout.{entries_in, entry_from, On}
use Rattle.store.proofs.Laws.{length_entries, entry_in}
use Rattle.lines.specs.Records.{stamped_at}
use Rattle.lines.specs.declared.Stamped.{Stamped}

module _ (store : List ℕ) (times : List ℤ) (i : ℕ) where
  pub nothing_there : length times ≤ i
      → ◌≡◌ {A = Stamped} (record { line = 0; processor = 0; original = pos 0; corrected = pos 0 })
      (stamped_at (entries_in store (length times)) (time_at times) i)
  unfolding stamped_at entry_at
  nothing_there h =
      let es = entries_in store (length times) in
      let long : length es ≤ i = omega (arith, h, length_entries store (length times)) in
      rw (get_or-eq_default es no_entry {n = i} long, get_or-eq_default times (pos 0) {n = i} h)

  pub something_there : i < length times → {line processor : ℕ} {time y z : ℤ}
      → line ≡ (entry_from store i).line
      → On (entry_from store i) processor
      → time ≡ (entry_from store i).body.time
      → y ≡ time
      → z ≡ get_or times i (pos 0)
      → ◌≡◌ {A = Stamped} (record { line = line; processor = processor; original = y; corrected = z })
      (stamped_at (entries_in store (length times)) (time_at times) i)
  unfolding stamped_at
  something_there h l p t y z = rw (entry_in store (length times) i h, l, p.is, y, t, z)
