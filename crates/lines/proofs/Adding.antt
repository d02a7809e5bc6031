-- Lines added one behind the other.
use Prim.Native.Nat.{ℕ, ◌+◌, ◌*◌, ◌≤◌, ◌<◌}
use mathlib.Core.Path.{◌≡◌, refl, sym, ap}
use mathlib.Core.List.{List, [], ◌++◌}
use native.Mathlib.Omega.{arith}
use lib.ListN.{length, take, take-append-drop}
use Rattle.report.specs.Put.{Put, Short}
use Rattle.report.proofs.Puts.{front, then, as_long}
use Rattle.lines.specs.Adding.{Added}
use Rattle.lines.specs.Lines.{LineInto}

-- ---- for the statement of `add`

module _ {room : List ℕ} {at : ℕ} {line : List ℕ} where
  pub nothing_added : length room < at + length line → Added room at line at room
  nothing_added h = record { there = λ fits. absurd (omega arith); beyond = λ short. (refl, refl) }

  pub added : {end : ℕ} {after : List ℕ} → at + length line ≤ length room → Put room at line end after → Added room at line end after
  added h p = record { there = λ fits. p; beyond = λ short. absurd (omega arith) }

-- ---- for those who add

-- no text at all
pub nothing_put : (most : ℕ) (room : List ℕ) (at : ℕ) → at ≤ length room → Short most room at [] at room
nothing_put most room at h =
    record { put = record { ends = omega arith; fits = h; holds = sym (take-append-drop at room) }; short = omega arith }

module _ {text blank line : List ℕ} {n : ℕ} (into : LineInto text blank n line) where
  -- what a line's room holds of it is its text
  the_text : take n line ≡ text
  the_text = front into.put

  pub line_added : {room : List ℕ} {at end : ℕ} {after : List ℕ} → length blank ≡ 256 → at + 256 ≤ length room
      → Added room at (take n line) end after → Short 256 room at text end after
  line_added long wide added =
      let size : length text ≤ 256 = omega (arith, long, into.put.fits, into.put.ends) in
      let same : length (take n line) ≡ length text = ap length the_text in
      let p = added.there (omega (arith, wide, size, same)) in
      record { put = rw the_text at p; short = omega (arith, size, same, p.ends) }

-- so many lines, one behind the other, each of at most 256 bytes
module _ (k : ℕ) {at : ℕ} {room₀ room lines : List ℕ} (put : Short (256 * k) room₀ 0 lines at room) where
  pub room_left : (n : ℕ) → k < n → 256 * n ≤ length room₀ → at + 256 ≤ length room
  room_left n h wide = omega (arith, put.short, as_long put.put, wide, h)

  pub one_more : {line : List ℕ} {end : ℕ} {after : List ℕ} → Short 256 room at line end after
      → Short (256 * (k + 1)) room₀ 0 (lines ++ line) end after
  one_more next = record { put = then put.put next.put; short = omega (arith, put.short, next.short) }
