-- Laws of a run of stores, `sets room at word`, in the orders in which the code makes them, and of the counted places.
use Prim.Native.Nat.{ℕ, zero, suc, ◌+◌, ◌-◌, ◌/◌, ◌%◌, ◌≤◌, ◌<◌}
use mathlib.Core.Path.{◌≡◌, refl, sym, ap, ◌∙◌}
use mathlib.Core.List.{List, [], ◌∷◌, ◌++◌, append_assoc, append-nil}
use native.Mathlib.Numerals.{add-one}
use native.Mathlib.Nat.{add-zero, add-suc, suc-add}
use native.Mathlib.Omega.{arith}
use lib.ListN.{length, set, take, drop, length-drop, drop_of_length-le}
use lib.Seq.{sets, sets-eq, set_comm, take_all, take-length, drop-drop}
use Rattle.paper.specs.Forms.{fixed, places_from, size_shown}
use Rattle.forms.proofs.Shown.{length_fixed}

-- two words, one behind the other
pub sets_append : (v w room : List ℕ) (at : ℕ) → sets room at (v ++ w) ≡ sets (sets room at v) (at + length v) w
sets_append [] w room at = rw add-zero
sets_append (x ∷ v) w room at = rw (sets_append v w (set room at x) (suc at), add-suc, suc-add)

-- a word copied into the part of the room from `at` on, which then comes back
pub copied : (room word part : List ℕ) (at : ℕ) → at + length word ≤ length room
    → part ≡ take (length word) word ++ drop (length word) (take (length room - at) (drop at room))
    → take at room ++ (part ++ drop (length room - at) (drop at room)) ≡ sets room at word
copied room word part at h e =
    let whole : take (length room - at) (drop at room) ≡ drop at room = take_all (length room - at) (drop at room) (simp length-drop (omega arith)) in
    let left : drop (length room - at) (drop at room) ≡ [] = drop_of_length-le (drop at room) {i = length room - at} (simp length-drop (omega arith)) in
    rw (left, append-nil, e, whole, take-length, drop-drop, sets-eq word room at h) (sym (append_assoc (take at room) word (drop (at + length word) room)))

-- a word's last byte may be stored first
last_first : (v room : List ℕ) (at b : ℕ) → sets room at (v ++ (b ∷ [])) ≡ sets (set room (at + length v) b) at v
last_first [] room at b = rw add-zero
last_first (x ∷ v) room at b =
    last_first v (set room at x) (suc at) b
    ∙ ap (λ (l : List ℕ). sets l (suc at) v) (rw (suc-add, ← add-suc) (set_comm room at (at + suc (length v)) x b (omega arith)))

one_less : (k : ℕ) → suc k - 1 ≡ k
one_less k = omega arith

-- a turn of the loop that writes digits from the right
pub digit_put : (room : List ℕ) (at i n : ℕ) → 0 < i → sets room at (fixed i n) ≡ sets (set room (at + (i - 1)) (n % 10 + 48)) at (fixed (i - 1) (n / 10))
unfolding fixed
digit_put room at zero n h = absurd (omega arith)
digit_put room at (suc k) n h = rw (one_less k, last_first (fixed k (n / 10)) room at (n % 10 + 48), length_fixed k (n / 10))

pub none_put : (room : List ℕ) (at i n : ℕ) → i ≤ 0 → sets room at (fixed i n) ≡ room
unfolding fixed
none_put room at zero n h = refl
none_put room at (suc k) n h = absurd (omega arith)

-- the whole part, the point, the six digits: room a after the first, b after all
pub size_put : (room a b : List ℕ) (at k n : ℕ) → k ≡ places_from 8 (n / 1000000) → a ≡ sets room at (fixed k (n / 1000000))
    → b ≡ sets (set a (at + k) 46) (at + k + 1) (fixed 6 (n % 1000000)) → b ≡ sets room at (size_shown n)
unfolding size_shown
size_put room a b at k n e p q =
    q ∙ rw (← e, sets_append (fixed k (n / 1000000)) (46 ∷ fixed 6 (n % 1000000)) room at, length_fixed k (n / 1000000), ← p, add-one)
