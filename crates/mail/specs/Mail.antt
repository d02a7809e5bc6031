-- Messages as numbers, two to a message: the place of its send, then that of its receive.
use Rattle.std.specs.Prelude.{ℕ, ◌+◌, ◌*◌, ◌/◌, ◌<◌, ◌≡◌, List, cond, length, get_or, set, ltb, Option, Some, None}
use Rattle.paper.specs.declared.Pair.{Pair}

abbrev pub no_pair : Pair
no_pair = record { send = 0; receive = 0 }

-- the k-th pair of the numbers, two zeros where there is none
unfoldable pub pair_at : List ℕ → ℕ → Pair
pair_at numbers k =
    cond (ltb k (length numbers / 2)) (record { send = get_or numbers (2 * k) 0; receive = get_or numbers (2 * k + 1) 0 }) no_pair

-- a place that is a send's where it is a record's
unfoldable pub send_at : ℕ → ℕ → Option ℕ
send_at listed place = cond (ltb place listed) (Some place) None

-- the send of the record at place i, by the places of the sends
unfoldable pub send_in : List ℕ → ℕ → Option ℕ
send_in sends i = send_at (length sends) (get_or sends i 0)

-- the two numbers of the k-th message
unfoldable pub put : List ℕ → ℕ → (send receive : ℕ) → List ℕ
put numbers k send receive = set (set numbers (2 * k) send) (2 * k + 1) receive

-- one message more, or none
unfoldable pub Noted : Option ℕ → (receive count : ℕ) → List ℕ → ℕ → List ℕ → Type 0
Noted None receive count numbers r numbers' = (r ≡ count) × (numbers' ≡ numbers)
Noted (Some send) receive count numbers r numbers' = (r ≡ count + 1) × (numbers' ≡ put numbers count send receive)

-- the numbers begin with those of so many messages
pub record Holds (items : List Pair) (count : ℕ) (numbers : List ℕ) : Type 0 where
  pub many : length items ≡ count
  pub each : (k : ℕ) → k < count → pair_at numbers k ≡ get_or items k no_pair
