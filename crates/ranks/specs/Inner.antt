-- What the functions that count the steps tell each other. A queue holds the records whose steps are known, in the order of their steps.
use Rattle.std.specs.Prelude.{ℕ, zero, suc, ◌+◌, ◌≤◌, ◌<◌, ◌≡◌, ◌↔◌, cond, List, length, set, ltb}
use Rattle.store.specs.Layout.{too_many}
use Rattle.ranks.specs.Ranked.{at, OneEach, RanksOf}

-- two slices of one length, for places of 32 bits
pub record Few (n : ℕ) (a b : List ℕ) : Type 0 where
  pub few : n < too_many
  pub all_a : length a ≡ n
  pub all_b : length b ≡ n

-- all slices are of one length
pub record Slices (n : ℕ) (first second ranks queue after receive : List ℕ) : Type 0 where
  pub few : n < too_many
  pub all_first : length first ≡ n
  pub all_second : length second ≡ n
  pub all_ranks : length ranks ≡ n
  pub all_queue : length queue ≡ n
  pub all_after : length after ≡ n
  pub all_receive : length receive ≡ n

-- ---- the record whose step leads to a record

pub record Inverts (table into : List ℕ) : Type 0 where
  pub back : OneEach table → (i : ℕ) → i < length table → at table i < length table → at into (at table i) ≡ i

-- ---- the queue

-- of how many of the first i records the steps are known
unfoldable pub known : ℕ → List ℕ → ℕ → ℕ
known n ranks zero = 0
known n ranks (suc i) = cond (ltb (at ranks i) n) (suc (known n ranks i)) (known n ranks i)

-- where a record stands in the queue
abbrev pub InQueue : (queue : List ℕ) (tail : ℕ) → ℕ → Type 0
InQueue queue tail k = (m : ℕ) × (m < tail) × (at queue m ≡ k)

-- the queue holds those of the first i records whose steps are known
pub record Queue (n i : ℕ) (ranks queue : List ℕ) (tail : ℕ) : Type 0 where
  pub all_ranks : length ranks ≡ n
  pub all_places : length queue ≡ n
  pub counted : known n ranks i ≡ tail
  pub inside : (m : ℕ) → m < tail → at queue m < i
  pub low : (m : ℕ) → m < tail → at ranks (at queue m) ≤ m
  pub each : (k : ℕ) → k < i → at ranks k < n → InQueue queue tail k
  pub most : (k : ℕ) → k < i → at ranks k ≤ n

-- ---- the records that have no steps

-- record i goes into the queue, or it is not known how many steps it has
pub data Sown (i none : ℕ) (ranks queue : List ℕ) (tail : ℕ) : ℕ → List ℕ → List ℕ → Type 0 where
  moved : ¬ (at ranks i ≡ 0) → Sown i none ranks queue tail tail (set ranks i none) queue
  full : length queue ≤ tail → Sown i none ranks queue tail tail ranks queue
  still : at ranks i ≡ 0 → tail < length queue → Sown i none ranks queue tail (tail + 1) ranks (set queue tail i)

-- of the first i records those that had 0 are in the queue, and the steps of the others are not known
pub record Seeded (n : ℕ) (before : List ℕ) (i : ℕ) (ranks queue : List ℕ) (tail : ℕ) : Type 0 where
  pub queued : Queue n i ranks queue tail
  pub upto : i ≤ n
  pub none_yet : (m : ℕ) → m < tail → at ranks (at queue m) ≡ 0
  pub ends : (k : ℕ) → k < i → (at ranks k ≡ 0) ↔ (at before k ≡ 0)
  pub others : (k : ℕ) → k < i → ¬ (at ranks k ≡ 0) → at ranks k ≡ n
  pub rest : (k : ℕ) → i ≤ k → at ranks k ≡ at before k

-- ---- one record marked

-- record i, if the table's step leads from it to record j and its steps are not known, has so many steps and goes into the queue
pub data Marked (table : List ℕ) (none j i steps : ℕ) (ranks queue : List ℕ) (tail : ℕ) : ℕ → List ℕ → List ℕ → Type 0 where
  outside : length table ≤ i → Marked table none j i steps ranks queue tail tail ranks queue
  other : ¬ (at table i ≡ j) → Marked table none j i steps ranks queue tail tail ranks queue
  early : at ranks i < none → Marked table none j i steps ranks queue tail tail ranks queue
  full : length queue ≤ tail → Marked table none j i steps ranks queue tail tail ranks queue
  new : i < length table → at table i ≡ j → none ≤ at ranks i → tail < length queue
      → Marked table none j i steps ranks queue tail (tail + 1) (set ranks i steps) (set queue tail i)

-- all tables and the ranks are of n records
pub record Tables (n : ℕ) (first second after receive ranks : List ℕ) : Type 0 where
  pub few : n < too_many
  pub all_first : length first ≡ n
  pub all_second : length second ≡ n
  pub all_after : length after ≡ n
  pub all_receive : length receive ≡ n
  pub all_ranks : length ranks ≡ n

-- a known record at the queue's head
pub record Head (n head : ℕ) (ranks queue : List ℕ) : Type 0 where
  pub there : head < length queue
  pub inside : at queue head < n
  pub known : at ranks (at queue head) < n

-- the steps back from the record at the queue's head
pub record Turned (first second after receive : List ℕ) (none head : ℕ) (ranks queue : List ℕ) (tail : ℕ) (tail' : ℕ) (ranks' queue' : List ℕ) : Type 0 where
  pub tail₁ : ℕ
  pub ranks₁ : List ℕ
  pub queue₁ : List ℕ
  pub one : Marked first none (at queue head) (at after (at queue head)) (at ranks (at queue head) + 1) ranks queue tail tail₁ ranks₁ queue₁
  pub two : Marked second none (at queue head) (at receive (at queue head)) (at ranks (at queue head) + 1) ranks₁ queue₁ tail₁ tail' ranks' queue'

-- the tables are turned round, and from some ranks the records without steps are in the queue
pub record Ready (n : ℕ) (first second after receive ranks queue : List ℕ) (tail : ℕ) : Type 0 where
  pub tables : Tables n first second after receive ranks
  pub turned_first : Inverts first after
  pub turned_second : Inverts second receive
  pub before : List ℕ
  pub sown : Seeded n before n ranks queue tail

-- from whatever the ranks were before the records without steps were put into the queue
pub record SpreadFrom (n : ℕ) (first second ranks queue : List ℕ) (tail : ℕ) (ranks' : List ℕ) : Type 0 where
  pub from : (before : List ℕ) → Seeded n before n ranks queue tail → RanksOf n first second before ranks'
