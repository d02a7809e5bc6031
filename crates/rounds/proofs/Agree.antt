-- The answer to the clock condition looks at the records' waits only, not at how a function goes on behind the last record.
use Prim.Native.Nat.{ℕ, zero, suc, ◌<◌, max}
use mathlib.Core.Path.{◌≡◌, refl}
use mathlib.Core.List.{List}
use lib.IntN.{ℤ}
use Rattle.paper.specs.Clock.{Waits, next, listed, time_at, settled_from, settle}
use Rattle.rounds.specs.Compare.{First}
use Rattle.rounds.proofs.Lists.{listed_same}

-- the first records of v, and as many
module _ {w v : Waits} (first : First w v) (size : w.size ≡ v.size) where
  next_agrees : (x : ℕ → ℤ) (i : ℕ) → i < w.size → next w x i ≡ next v x i
  unfolding next
  next_agrees x i i< = rw (first.original i i<, first.before i i<, first.gap i i<, first.send i i<, first.latency i i<)

  list_agrees : (f g : ℕ → ℤ) → ((i : ℕ) → i < w.size → f i ≡ g i) → listed w.size f ≡ listed v.size g
  list_agrees f g e = rw (← size) (listed_same w.size f g e)

  from_agrees : (more k : ℕ) (xs : List ℤ) → settled_from w more k xs ≡ settled_from v more k xs
  unfolding settled_from
  from_agrees zero k xs = refl
  from_agrees (suc more) k xs =
      rw (
        list_agrees (next w (time_at xs)) (next v (time_at xs)) (next_agrees (time_at xs)),
        from_agrees more (suc k) (listed v.size (next v (time_at xs))),
      )

  -- they have the same answer
  pub settle_agrees : settle w ≡ settle v
  unfolding settle
  settle_agrees =
      rw (
        list_agrees w.original v.original first.original,
        from_agrees (max 1 w.size) 0 (listed v.size v.original),
        size,
      )
