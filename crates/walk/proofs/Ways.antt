-- Laws of the walk, over plain lists and numbers.
use Prim.Native.Nat.{ℕ, zero, suc, ◌+◌, ◌-◌, ◌≤◌, ◌<◌}
use native.Mathlib.Omega.{arith}
use native.Mathlib.Numerals.{add-one}
use mathlib.Core.Path.{◌≡◌, refl, sym, ap, ◌∙◌}
use mathlib.Core.Bool.{Bool, true, false, cond}
use mathlib.Core.List.{List, [], ◌∷◌, ◌++◌, append_assoc}
use borrow.Author.Tests.{lt-ltb, le-ltb}
use lib.ListN.{length, get_or, take, drop, set, length-set, get_or-eq_default}
use lib.Seq.{set_split, take-suc-set, drop-set-lt}
use lib.Dec.{eqb, ltb}
use Rattle.paper.specs.Filling.{filling, on_list}
use Rattle.paper.specs.declared.Filled.{Filled}
use Rattle.answer.specs.Answers.{filling_in}
use Rattle.answer.proofs.Fillings.{list_short, list_long}
use Rattle.walk.specs.Way.{rank_at, next, way, count_at, way_at}

module _ (first second ranks : List ℕ) where
  pub way_length : (left i : ℕ) → length (way first second ranks left i) ≡ suc left
  unfolding way
  way_length zero i = refl
  way_length (suc left) i = ap suc (way_length left (next first second ranks left i))

-- ---- a step of the walk

module _ (first second ranks : List ℕ) (i at : ℕ) (list : List ℕ) where
  -- the last record
  pub way_last : (left : ℕ) → at + left < length list → left ≡ 0 → set list at i ≡ take at list ++ (way first second ranks left i ++ drop (at + left + 1) list)
  unfolding way
  way_last left inside e =
      let place : at + left + 1 ≡ suc at = omega arith in
      rw (place, e) (set_split list at i (omega arith))

  on : (k : ℕ) → at + suc k < length list → {list' : List ℕ}
      → list' ≡ take (at + 1) (set list at i) ++ (way first second ranks k (next first second ranks k i) ++ drop (at + 1 + k + 1) (set list at i))
      → list' ≡ take at list ++ (way first second ranks (suc k) i ++ drop (at + suc k + 1) list)
  unfolding way
  on k inside {list'} l =
      let same : at + 1 + k + 1 ≡ at + suc k + 1 = omega arith in
      let before = take-suc-set list at i (omega arith) in
      let behind = drop-set-lt (at + suc k + 1) list at i (omega arith) in
      (rw (same, add-one at, before, behind) at l) ∙ append_assoc (take at list) (i ∷ []) _

  -- the record, and the walk behind it
  pub way_on : (left : ℕ) → at + left < length list → ¬ (left ≡ 0) → {to : ℕ} → to ≡ next first second ranks (left - 1) i → {list' : List ℕ}
      → list' ≡ take (at + 1) (set list at i) ++ (way first second ranks (left - 1) to ++ drop (at + 1 + (left - 1) + 1) (set list at i))
      → list' ≡ take at list ++ (way first second ranks left i ++ drop (at + left + 1) list)
  way_on zero inside some_left e l = absurd (some_left refl)
  way_on (suc k) inside some_left e l = let less_one : suc k - 1 ≡ k = omega arith in on k inside (rw (e, less_one) at l)

-- what the walk behind it asks
pub less : (left : ℕ) → ¬ (left ≡ 0) → {t : ℕ} → left ≡ t → left - 1 < t
less left some_left e = omega arith

pub inside_on : (list : List ℕ) (at left v : ℕ) → ¬ (left ≡ 0) → at + left < length list → at + 1 + (left - 1) < length (set list at v)
inside_on list at left v some_left l = rw (length-set list at v) (omega arith)

-- ---- one record

-- inside a list it does not matter what stands past its end
inside : (l : List ℕ) (i d e : ℕ) → i < length l → get_or l i d ≡ get_or l i e
inside [] i d e h = absurd (omega arith)
inside (x ∷ l) zero d e h = refl
inside (x ∷ l) (suc i) d e h = inside l i d e (omega arith)

module _ (ranks : List ℕ) (i : ℕ) where
  pub rank_there : i < length ranks → {r : ℕ} → r ≡ get_or ranks i 0 → r ≡ rank_at ranks i
  unfolding rank_at
  rank_there l e = e ∙ inside ranks i 0 (length ranks) l

  pub rank_past : length ranks ≤ i → length ranks ≡ rank_at ranks i
  unfolding rank_at
  rank_past l = sym (get_or-eq_default ranks (length ranks) l)

  module _ {rank : ℕ} (e : rank ≡ rank_at ranks i) where
    pub count_some : rank < length ranks → rank + 1 ≡ count_at ranks i
    unfolding count_at
    count_some l = rw (← e, lt-ltb rank (length ranks) l)

    pub count_none : length ranks ≤ rank → 0 ≡ count_at ranks i
    unfolding count_at
    count_none l = rw (← e, le-ltb rank (length ranks) l)

pub next_told : (first second ranks : List ℕ) (left i : ℕ) {a b r : ℕ} → a ≡ get_or first i 0 → b ≡ get_or second i 0 → r ≡ rank_at ranks a → {to : ℕ}
    → to ≡ cond (eqb r left) a b → to ≡ next first second ranks left i
unfolding next
next_told first second ranks left i p q s e = rw (← p, ← q, ← s) e

-- ---- the whole chain

empty : (l : List ℕ) → length l ≡ 0 → l ≡ []
empty [] e = refl
empty (x ∷ l) e = absurd (omega arith)

module _ (first second ranks : List ℕ) (place : ℕ) where
  pub chain_length : length (way_at first second ranks place) ≡ count_at ranks place
  unfolding way_at count_at
  chain_length = go (ltb (rank_at ranks place) (length ranks))
    where
      go : (b : Bool) → length (cond b (way first second ranks (rank_at ranks place) place) []) ≡ cond b (rank_at ranks place + 1) 0
      go true = way_length first second ranks (rank_at ranks place) place ∙ sym (add-one (rank_at ranks place))
      go false = refl

  walked : (count : ℕ) → count ≡ count_at ranks place → ¬ (count ≡ 0) → way first second ranks (count - 1) place ≡ way_at first second ranks place
  unfolding way_at count_at
  walked count is some-steps = go (ltb (rank_at ranks place) (length ranks)) is
    where
      go : (b : Bool) → count ≡ cond b (rank_at ranks place + 1) 0
          → way first second ranks (count - 1) place ≡ cond b (way first second ranks (rank_at ranks place) place) []
      go true e = let less_one : count - 1 ≡ rank_at ranks place = omega arith in rw less_one
      go false e = absurd (some-steps e)

  many : {count : ℕ} → count ≡ count_at ranks place → count ≡ length (way_at first second ranks place)
  many is = is ∙ sym chain_length

  module _ (list : List ℕ) {count : ℕ} (is : count ≡ count_at ranks place) {answer : Filled} where
    -- no steps are known
    pub chain_none : count ≡ 0 → answer ≡ filling_in count (length list) → filling answer list ≡ on_list (way_at first second ranks place) list
    chain_none none e =
        let no_items : way_at first second ranks place ≡ [] = empty _ (sym (many is) ∙ none) in
        list_long (way_at first second ranks place) list (many is) e (omega arith) (rw none (sym (ap (λ (l : List ℕ). l ++ list) no_items)))

    -- "then a list too short is 16"
    pub chain_short : length list < count → answer ≡ filling_in count (length list) → filling answer list ≡ on_list (way_at first second ranks place) list
    chain_short l e = list_short (way_at first second ranks place) list (many is) e l

    pub chain_filled : ¬ (count ≡ 0) → count ≤ length list → {list' : List ℕ}
        → list' ≡ take 0 list ++ (way first second ranks (count - 1) place ++ drop (0 + (count - 1) + 1) list)
        → answer ≡ filling_in count (length list) → filling answer list' ≡ on_list (way_at first second ranks place) list
    chain_filled some-steps l w e =
        let behind : 0 + (count - 1) + 1 ≡ count = omega arith in
        list_long (way_at first second ranks place) list (many is) e l (rw (behind, walked count is some-steps) at w)
