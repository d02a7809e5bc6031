-- The chains: of each bucket its sends in file order, and its receives back from the last. Throughout, l is the store, n the
-- number of its records, and a place that is n is no place.
use Rattle.std.specs.Prelude.{ℕ, zero, suc, ◌+◌, ◌≤◌, ◌<◌, ◌≡◌, Bool, true, false, cond, List, length, get_or, take, ltb, Option, Some, None, unwrap_or}
use Rattle.paper.specs.Matching.{Key, count_if, is_receive_of, send_place, send_of}
use Rattle.paper.specs.declared.Entry.{Entry}
use Rattle.store.specs.Layout.{too_many, entries_in}
use Rattle.side.specs.Sides.{side_at, sends_in, receives_in}

-- ---- first and last

-- j is the first from i on that passes, and n where none below n does
pub record First (p : ℕ → Bool) (n i j : ℕ) : Type 0 where
  pub from : i ≤ j
  pub upto : j ≤ n
  pub none : (k : ℕ) → i ≤ k → k < j → p k ≡ false
  pub here : j < n → p j ≡ true

-- j is one more than the last before i that passes, and 0 where none does
pub record Last (p : ℕ → Bool) (i j : ℕ) : Type 0 where
  pub upto : j ≤ i
  pub none : (k : ℕ) → j ≤ k → k < i → p k ≡ false
  pub here : (k : ℕ) → j ≡ suc k → p k ≡ true

-- ---- the chains

-- one number for each bucket
pub record Filled (xs : List ℕ) (v : ℕ) : Type 0 where
  pub buckets : length xs ≡ 1024
  pub each : (b : ℕ) → b < 1024 → get_or xs b 0 ≡ v

abbrev pub send_in : List ℕ → ℕ → ℕ → Bool
send_in l b i = sends_in b (side_at l i)

abbrev pub receive_in : List ℕ → ℕ → ℕ → Bool
receive_in l b i = receives_in b (side_at l i)

-- the sends from place i on are linked to the next of their bucket
abbrev pub Linked : List ℕ → ℕ → List ℕ → ℕ → Type 0
Linked l n link i = (j b : ℕ) → i ≤ j → j < n → send_in l b j ≡ true → First (send_in l b) n (j + 1) (get_or link j 0)

-- and each bucket has the first of them at its head
pub record Chained (l : List ℕ) (n : ℕ) (link heads : List ℕ) (i : ℕ) : Type 0 where
  pub few : n < too_many
  pub size : length link ≡ n
  pub buckets : length heads ≡ 1024
  pub head : (b : ℕ) → b < 1024 → First (send_in l b) n i (get_or heads b 0)
  pub linked : Linked l n link i

-- the receives before place i are linked to the one before in their bucket
abbrev pub Backed : List ℕ → List ℕ → ℕ → Type 0
Backed l link i = (j b : ℕ) → j < i → receive_in l b j ≡ true → Last (receive_in l b) j (get_or link j 0)

-- the entries before place i have their sends
abbrev pub Placed : List ℕ → ℕ → List ℕ → ℕ → Type 0
Placed l n sends i = (j : ℕ) → j < i → get_or sends j 0 ≡ unwrap_or (send_of (entries_in l n) j) n

-- all that holds where the entries before place i are done
pub record Placing (l : List ℕ) (n : ℕ) (sends link heads seen : List ℕ) (i : ℕ) : Type 0 where
  pub size : length sends ≡ n
  pub chained : Chained l n link heads 0
  pub buckets : length seen ≡ 1024
  pub last : (b : ℕ) → b < 1024 → Last (receive_in l b) i (get_or seen b 0)
  pub backed : Backed l link i
  pub placed : Placed l n sends i

-- ---- one search

-- a walk forwards along the sends of bucket b may start at `at`
pub record Forward (l : List ℕ) (link : List ℕ) (b at : ℕ) : Type 0 where
  pub linked : Linked l (length link) link 0
  pub upto : at ≤ length link
  pub here : at < length link → send_in l b at ≡ true

-- a walk backwards along the receives of bucket b may start before `from`
pub record Backward (l : List ℕ) (link : List ℕ) (b from : ℕ) : Type 0 where
  pub backed : Backed l link from
  pub upto : from ≤ length link
  pub here : (k : ℕ) → from ≡ suc k → receive_in l b k ≡ true

-- a place and one, and 0 for no place
abbrev pub behind : Option ℕ → ℕ
behind None = 0
behind (Some k) = suc k

-- where the search for a send starts: at the head of the bucket, or behind the send of the receive before
abbrev pub start_from : List ℕ → List ℕ → ℕ → ℕ → ℕ
start_from sends link head zero = head
start_from sends link head (suc q) = cond (ltb (get_or sends q 0) (length link)) (get_or link (get_or sends q 0) 0) (length link)

-- all that a search behind the receives before place `from` of bucket b goes by
pub record Ready (l : List ℕ) (sends link : List ℕ) (b head from : ℕ) : Type 0 where
  pub few : length link < too_many
  pub size : length sends ≡ length link
  pub first : First (send_in l b) (length link) 0 head
  pub linked : Linked l (length link) link 0
  pub backward : Backward l link b from
  pub placed : Placed l (length link) sends from

-- the place of the send that a receive under the key belongs to, if it stands at place i
unfoldable pub send_under_at : List Entry → Key → ℕ → ℕ
send_under_at es key i = unwrap_or (send_place key (count_if (is_receive_of key) (take i es)) es) (length es)
