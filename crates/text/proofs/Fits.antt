-- A made table is never refused by 2 or 3: its file has the right length and is read back as the table, which has 4,096 latencies, none
-- above 1,000,000.
use Rattle.std.specs.Prelude.{Option, Some, None, Ok, Err}
use Prim.Native.Nat.{ℕ, zero, suc, ◌+◌, ◌/◌, ◌%◌, ◌≤◌, ◌<◌, ◌^◌}
use mathlib.Core.Path.{◌≡◌, refl, ap}
use mathlib.Core.Bool.{Bool, true, false, cond, ◌&&◌}
use mathlib.Core.List.{List}
use native.Mathlib.Omega.{arith}
use lib.ListN.{length, get_or}
use borrow.Author.Tests.{le-leb}
use Rattle.paper.specs.Tests.{all_up_to}
use Rattle.paper.specs.Answer.{low_latencies}
use Rattle.paper.specs.Reading.{Lines, done, unended, ended, lines_of}
use Rattle.rule.specs.Rule.{covers, over, Meaning, meaning_of}
use Rattle.rule.specs.declared.Rule.{Rule}
use Rattle.rule.proofs.Low.{sets_low}
use Rattle.table.specs.Table.{latencies_of, bytes_for}
use Rattle.table.proofs.Back.{bytes_back, bytes_long}
use Rattle.text.specs.Text.{said_of, entry, value_of, places, table_of, Made, only_whole, MadeInto}

-- ---- what is said is low

over_low : (s r : ℕ) (old : Option ℕ) (meaning : Meaning) → ((rule : Rule) → meaning ≡ Ok (Some rule) → rule.latency ≤ 1000000)
    → value_of old ≤ 1000000 → value_of (over s r old meaning) ≤ 1000000
unfolding over value_of
over_low s r old (Ok None) low h = h
over_low s r old (Err bad) low h = h
over_low s r old (Ok (Some rule)) low h = go (covers rule.sender s && covers rule.receiver r)
  where
    go : (t : Bool) → value_of (cond t (Some rule.latency) old) ≤ 1000000
    go true = low rule refl
    go false = h

said_low : (s r : ℕ) (old : Option ℕ) (x : Lines) → value_of old ≤ 1000000 → value_of (said_of s r old x) ≤ 1000000
unfolding said_of
said_low s r old done h = h
said_low s r old (unended l) h = over_low s r old (meaning_of l) (sets_low l) h
said_low s r old (ended l x) h = said_low s r (over s r old (meaning_of l)) x (over_low s r old (meaning_of l) (sets_low l) h)

entry_low : (x : Lines) (k : ℕ) → value_of (entry x k) ≤ 1000000
unfolding entry value_of
entry_low x k = said_low (k / 64) (k % 64) None x (omega arith)

-- ---- the places

places_long : (f : ℕ → Option ℕ) (n k : ℕ) → length (places f n k) ≡ n
unfolding places
places_long f zero k = refl
places_long f (suc n) k = ap suc (places_long f n (k + 1))

module _ (f : ℕ → Option ℕ) (low : (k : ℕ) → value_of (f k) ≤ 1000000) where
  places_low : (n k : ℕ) → low_latencies (places f n k) ≡ true
  unfolding places low_latencies all_up_to
  places_low zero k = refl
  places_low (suc n) k = rw (le-leb (value_of (f k)) 1000000 (low k), places_low n (k + 1))

  places_small : (n k i : ℕ) → get_or (places f n k) i 0 ≤ 1000000
  unfolding places
  places_small zero k i = omega arith
  places_small (suc n) k zero = low k
  places_small (suc n) k (suc i) = places_small n (k + 1) i

-- ---- the table

-- not refused by 2
pub table_long : (text : List ℕ) → length (table_of text) ≡ 4096
unfolding table_of
table_long text = places_long (entry (lines_of text)) 4096 0

-- not refused by 3
pub table_low : (text : List ℕ) → low_latencies (table_of text) ≡ true
unfolding table_of
table_low text = places_low (entry (lines_of text)) (entry_low (lines_of text)) 4096 0

pub file_long : (text : List ℕ) → length (bytes_for (table_of text)) ≡ 16384
file_long text = omega (arith, bytes_long (table_of text), table_long text)

pub file_back : (text : List ℕ) → latencies_of (bytes_for (table_of text)) ≡ table_of text
unfolding table_of
file_back text = bytes_back (table_of text) (λ i h. small i)
  where
    small : (i : ℕ) → get_or (table_of text) i 0 < 2 ^ 32
    small i = omega (arith, places_small (entry (lines_of text)) (entry_low (lines_of text)) 4096 0 i)

-- ---- the room

pub room_long : {text before after : List ℕ} {made : Made} → MadeInto text before made after → length before ≡ 16384 → length after ≡ 16384
unfolding only_whole
room_long {text} {before} {after} {made} m h = rw m.holds (go made)
  where
    go : (made : Made) → length (only_whole made (bytes_for (table_of text)) before) ≡ 16384
    go (Ok whole) = file_long text
    go (Err unmade) = h
