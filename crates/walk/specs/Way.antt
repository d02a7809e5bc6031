-- The walk from a record along tables of steps, each to a record that has one step less: by the first kind where that one has, else by the second.
use Rattle.std.specs.Prelude.{ℕ, zero, suc, ◌+◌, cond, List, [], ◌∷◌, length, get_or, ltb, eqb}

-- the steps that a record has; as many as there are records, which none has, where there is no such record
unfoldable pub rank_at : List ℕ → ℕ → ℕ
rank_at ranks i = get_or ranks i (length ranks)

-- where the walk goes on with so many steps left
unfoldable pub next : (first second ranks : List ℕ) (left i : ℕ) → ℕ
next first second ranks left i = cond (eqb (rank_at ranks (get_or first i 0)) left) (get_or first i 0) (get_or second i 0)

unfoldable pub way : (first second ranks : List ℕ) (left i : ℕ) → List ℕ
way first second ranks zero i = i ∷ []
way first second ranks (suc left) i = i ∷ way first second ranks left (next first second ranks left i)

-- how many records that is for the one at a place, 0 where its steps are not known
unfoldable pub count_at : List ℕ → ℕ → ℕ
count_at ranks i = cond (ltb (rank_at ranks i) (length ranks)) (rank_at ranks i + 1) 0

unfoldable pub way_at : (first second ranks : List ℕ) (place : ℕ) → List ℕ
way_at first second ranks place = cond (ltb (rank_at ranks place) (length ranks)) (way first second ranks (rank_at ranks place) place) []
