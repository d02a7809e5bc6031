-- Document 01, "Matching and the clock condition", its second half: sound times, the rounds, and the answer that they come to.
-- Times are signed microseconds.
use Rattle.std.specs.Prelude.{ℕ, zero, suc, ◌<◌, max, ◌≡◌, List, [], ◌∷◌, Bool, true, false, cond, get_or, ℤ, pos, ◌+ℤ◌, ◌≤ℤ◌, Option, Some, None}
use Rattle.std.specs.Int.Signed.{le_z, lt_z}

-- the largest time that the format holds
abbrev pub limit : ℤ
limit = pos 999999999999999

-- What the records wait for: how many records there are, and of each its original time, the record before it on its processor
-- with the gap to keep from it, and, for a receive, its send with the latency. The gap is 0 in document 01; change request 9 says what it is
-- (Gaps.antt).
pub record Waits : Type 0 where
  pub size : ℕ
  pub original : ℕ → ℤ
  pub before : ℕ → Option ℕ
  pub gap : ℕ → ℕ
  pub send : ℕ → Option ℕ
  pub latency : ℕ → ℕ

-- "Times are sound if none is below its original or above 999,999,999,999,999, each listed record is not below the one before
-- it on its processor, and each receive is not below its send plus the latency. Equal times are good." Change request 9: "a record must now lie
-- after its predecessor by at least" the gap.
pub record Sound (w : Waits) (x : ℕ → ℤ) : Type 0 where
  pub above : (i : ℕ) → i < w.size → w.original i ≤ℤ x i
  pub within : (i : ℕ) → i < w.size → x i ≤ℤ limit
  pub order : (i j : ℕ) → i < w.size → w.before i ≡ Some j → (x j +ℤ pos (w.gap i)) ≤ℤ x i
  pub clock : (i j : ℕ) → i < w.size → w.send i ≡ Some j → (x j +ℤ pos (w.latency i)) ≤ℤ x i

-- "The answer is the least sound set."
pub record Least (w : Waits) (x : ℕ → ℤ) : Type 0 where
  pub sound : Sound w x
  pub least : (y : ℕ → ℤ) → Sound w y → (i : ℕ) → i < w.size → x i ≤ℤ y i

-- ---- the rounds

abbrev pub later : ℤ → ℤ → ℤ
later a b = cond (lt_z a b) b a

-- a, or the time of the record waited for plus the weight of the wait, where there is one and that is later
abbrev pub waited : (ℕ → ℤ) → Option ℕ → ℕ → ℤ → ℤ
waited x None weight a = a
waited x (Some j) weight a = later a (x j +ℤ pos weight)

-- "Each next round gives every record the largest of its original, its predecessor's time on the same processor, and, for a
-- receive, its send's time plus latency, both times taken from the round before.": the predecessor's time plus the gap
unfoldable pub next : Waits → (ℕ → ℤ) → ℕ → ℤ
next w x i = waited x (w.send i) (w.latency i) (waited x (w.before i) (w.gap i) (w.original i))

-- "Round 0 is the originals."
unfoldable pub round : Waits → ℕ → ℕ → ℤ
round w zero i = w.original i
round w (suc k) i = next w (round w k) i

-- round k is one that the next one repeats
abbrev pub Repeats : Waits → ℕ → Type 0
Repeats w k = (i : ℕ) → i < w.size → round w (suc k) i ≡ round w k i

-- ---- the answer, computed

-- f 0, f 1, .., f (n - 1)
abbrev pub listed {ℓ} : {A : Type ℓ} → ℕ → (ℕ → A) → List A
listed zero f = []
listed (suc n) f = let first = f zero in first ∷ listed n (λ i. f (suc i))

abbrev pub time_at : List ℤ → ℕ → ℤ
time_at xs i = get_or xs i (pos 0)

unfoldable pub same : List ℤ → List ℤ → Bool
same [] [] = true
same [] (y ∷ ys) = false
same (x ∷ xs) [] = false
same (x ∷ xs) (y ∷ ys) = cond (le_z x y) (cond (le_z y x) (same xs ys) false) false

unfoldable pub within_limit : List ℤ → Bool
within_limit [] = true
within_limit (x ∷ xs) = cond (le_z x limit) (within_limit xs) false

pub data Settled : Type 0 where
  impossible : Settled
  settled : (rounds : ℕ) (times : List ℤ) → Settled

-- from round k, whose times are xs, looking at `more` rounds
unfoldable pub settled_from : Waits → ℕ → ℕ → List ℤ → Settled
settled_from w zero k xs = impossible
settled_from w (suc more) k xs =
    let ys = listed w.size (next w (time_at xs)) in
    let on = settled_from w more (suc k) ys in
    cond (same ys xs) (cond (within_limit xs) (settled k xs) impossible) on

-- "The rounds reported are the first round that the next one repeats: at most one less than the number of listed records, and 0
-- for none." Where no round up to that bound is repeated, or a time of the repeated one is above the limit, no times exist.
unfoldable pub settle : Waits → Settled
settle w = settled_from w (max 1 w.size) 0 (listed w.size w.original)
