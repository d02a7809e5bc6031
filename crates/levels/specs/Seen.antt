-- Of each processor the places of its last record and of its last mark that counts, as two tables, and what they come to. A place that is
-- the number of records is none.
use Rattle.std.specs.Prelude.{ℕ, ◌<◌, ◌≡◌, Bool, true, false, cond, not, List, length, get_or, eqb, unwrap_or}
use Rattle.paper.specs.Matching.{last_on}
use Rattle.paper.specs.Levels.{expected, last_mark}
use Rattle.paper.specs.declared.Asked.{Asked}
use Rattle.store.specs.Layout.{entry_from, entries_in}

-- the tables of the first n records of a store
pub record Seen (store : List ℕ) (n : ℕ) (last mark : List ℕ) : Type 0 where
  pub lasts : length last ≡ 64
  pub marks : length mark ≡ 64
  pub each_last : (p : ℕ) → p < 64 → get_or last p 0 ≡ unwrap_or (last_on (entries_in store n) p n) n
  pub each_mark : (p : ℕ) → p < 64 → get_or mark p 0 ≡ unwrap_or (last_mark (entries_in store n) p n) n

-- whether a processor with these places calls for 17
unfoldable pub off_by : Asked → List ℕ → (n last mark : ℕ) → Bool
off_by a store n last mark = cond (eqb last n) false (cond (eqb mark n) true (not (expected a (entry_from store mark).body.values)))
