-- The first open place.
use Rattle.std.specs.Prelude.{Option, Some}
use Rattle.std.specs.List.{position, position_from}
use Rattle.std.proofs.lemmas.Iterator.Adapters.{position_from-zero}
use Prim.Native.Nat.{ℕ, suc, ◌+◌, ◌<◌}
use mathlib.Core.Path.{◌≡◌, refl, sym, ◌∙◌}
use mathlib.Core.Bool.{Bool, true, false, cond}
use mathlib.Core.List.{List, [], ◌∷◌}
use native.Mathlib.Omega.{arith}
use lib.ListN.{length, get_or, replicate, length-replicate, get_or-replicate}
use lib.Dec.{leb, ltb}
use borrow.Author.Tests.{leb-true, leb-false, le-ltb, lt-ltb}
use Rattle.text.specs.Text.{open_or, first_open}
use Rattle.text.specs.Held.{said_by, held, Unsaid}

-- ---- nothing said

pub all_open : Unsaid (replicate 4096 4294967295)
unfolding held said_by
all_open = record { long = length-replicate {A = ℕ} 4096 4294967295; open_yet = λ k h. rw (get_or-replicate {A = ℕ} 4096 k 4294967295 0 h) }

-- ---- the search

-- of places that hold the list's numbers the first open one is the first whose number is above every latency
open_from : (l : List ℕ) (k : ℕ) (f : ℕ → Option ℕ) → ((j : ℕ) → j < length l → f (k + j) ≡ said_by (get_or l j 0))
    → first_open f (length l) k ≡ position_from (ltb 1000000) k l
unfolding first_open open_or said_by
open_from [] k f h = refl
open_from (x ∷ l) k f h =
    go (leb x 1000000) refl (let q : k + 0 ≡ k = omega arith in rw q at (h 0 (omega arith)))
    (open_from l (k + 1) f (λ j m. let q : k + 1 + j ≡ k + suc j = omega arith in rw q (h (suc j) (omega arith))))
  where
    go : (t : Bool) → leb x 1000000 ≡ t → f k ≡ said_by x → first_open f (length l) (k + 1) ≡ position_from (ltb 1000000) (k + 1) l
        → open_or k (f k) (first_open f (length l) (k + 1)) ≡ cond (ltb 1000000 x) (Some k) (position_from (ltb 1000000) (k + 1) l)
    go true p s later = rw (s, p, le-ltb 1000000 x (leb-true x 1000000 p)) later
    go false p s later = rw (s, p, lt-ltb 1000000 x (leb-false x 1000000 p))

pub open_is : (l : List ℕ) → first_open (held l) (length l) 0 ≡ position (ltb 1000000) l
unfolding held
open_is l = open_from l 0 (held l) (λ j h. let q : 0 + j ≡ j = omega arith in rw q refl) ∙ sym (position_from-zero (ltb 1000000) l)
