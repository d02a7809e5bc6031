-- The tables of a chain's steps: of each record the place that a step leads to, or a number for none; and the records where a chain ends.
use Rattle.std.specs.Prelude.{ℕ, cond, ◌&&◌, List, length, get_or, ℤ, pos, ◌+ℤ◌, ltb, leb}
use Rattle.paper.specs.Clock.{listed, time_at}
use Rattle.paper.specs.Tests.{eq_z}
use Rattle.store.specs.Layout.{too_many, entries_in}
use Rattle.waits.specs.Tables.{befores_of, gaps_of}

-- ---- one record

-- the place j, where the time of record i is exactly that of j plus the wait
unfoldable pub exact_at : (times : List ℤ) (wait none i j : ℕ) → ℕ
exact_at times wait none i j = cond (ltb j (length times) && eq_z (time_at times i) (time_at times j +ℤ pos wait)) j none

unfoldable pub end_rank : (time original : ℤ) (none : ℕ) → ℕ
end_rank time original none = cond (eq_z time original) 0 none

-- ---- all of them

unfoldable pub exact_table : (times : List ℤ) (waits : List ℕ) (none : ℕ) (table : List ℕ) → List ℕ
exact_table times waits none table = listed (length table) (λ i. exact_at times (get_or waits i 0) none i (get_or table i 0))

-- of the records of a store, from each to the one before it on its processor
unfoldable pub processor_steps : (store : List ℕ) (times : List ℤ) (share : ℕ) (out : List ℕ) → List ℕ
processor_steps store times share out =
    let es = entries_in store (length out) in
    cond (ltb (length out) too_many && leb share 1000) (exact_table times (gaps_of share es) (length out) (befores_of es)) out

unfoldable pub end_ranks : (originals times : List ℤ) (none : ℕ) (ranks : List ℕ) → List ℕ
end_ranks originals times none ranks = listed (length ranks) (λ i. end_rank (time_at times i) (time_at originals i) none)
