-- "Equal times are good": a ring of waits that weigh nothing has times, all of them equal if it binds them all.
use Rattle.std.specs.Prelude.{Some, None}
use Prim.Native.Nat.{ℕ, ◌<◌}
use mathlib.Core.Path.{◌≡◌, refl}
use mathlib.Core.List.{List, [], ◌∷◌}
use lib.ListN.{get_or}
use lib.IntN.{ℤ, pos}
use lib.Signed.{◌≤ℤ◌, ≤ℤ_refl}
use Rattle.paper.specs.Clock.{Waits, limit, next, same, within_limit, time_at, settled_from, settle, settled, impossible}
use Rattle.rounds.specs.Meaning.{Wait, Closed}
use Rattle.rounds.proofs.Rounds.{sound_of}
use Rattle.rounds.proofs.Meaning.{sound_settles}

-- where no wait weighs anything there are times, whatever waits for what
pub weightless_settles : (w : Waits) → Closed w → ((i : ℕ) → i < w.size → w.original i ≤ℤ limit)
    → ((i j v : ℕ) → i < w.size → Wait w i j v → v ≡ 0) → (k : ℕ) × (xs : List ℤ) × (settle w ≡ settled k xs)
weightless_settles w closed low weightless =
    sound_settles w closed (sound_of w (λ i. limit) low (λ i i<. ≤ℤ_refl limit) (λ i j v i< wait. rw (weightless i j v i< wait) (≤ℤ_refl limit)))

-- trace B: two processors, each of which receives from the other before it sends; with these gaps and latencies of its four records
abbrev ring : (gaps latencies : List ℕ) → Waits
ring gaps latencies = record {
  size = 4;
  original = time_at (pos 1 ∷ pos 2 ∷ pos 3 ∷ pos 4 ∷ []);
  before = λ i. get_or (None ∷ Some 0 ∷ None ∷ Some 2 ∷ []) i None;
  gap = λ i. get_or gaps i 0;
  send = λ i. get_or (Some 3 ∷ None ∷ Some 1 ∷ None ∷ []) i None;
  latency = λ i. get_or latencies i 0;
}

pub ring_settles : settle (ring [] []) ≡ settled 3 (pos 4 ∷ pos 4 ∷ pos 4 ∷ pos 4 ∷ [])
unfolding settle settled_from same within_limit next
ring_settles = refl

-- a weight anywhere in the ring leaves no times
pub ring_impossible : settle (ring [] (0 ∷ 0 ∷ 1 ∷ 0 ∷ [])) ≡ impossible
unfolding settle settled_from same within_limit next
ring_impossible = refl

pub gap_impossible : settle (ring (0 ∷ 1 ∷ 0 ∷ 0 ∷ []) []) ≡ impossible
unfolding settle settled_from same within_limit next
gap_impossible = refl
