-- The laws of the store: records put one after the other are read as the records, and each with where its line starts.
use Prim.Native.Nat.{ℕ, zero, suc, ◌+◌, ◌*◌, ◌<◌, ◌≤◌, ◌^◌}
use mathlib.Core.Path.{◌≡◌, refl}
use mathlib.Core.List.{List, [], ◌∷◌, ◌++◌, append_assoc, append-nil}
use native.Mathlib.Omega.{arith}
use borrow.Author.Tests.{lt-ltb}
use lib.Dec.{leb-suc-suc}
use lib.ListN.{length, drop, length-append, length-drop}
use lib.Seq.{take_at, drop-append-add, drop-drop}
use Rattle.paper.specs.Matching.{entry_at}
use Rattle.paper.specs.declared.Entry.{Entry}
use Rattle.store.proofs.Listed.{listed_same, length_listed, listed_at}
use Rattle.store.proofs.Back.{read_back}
use Rattle.store.specs.Layout.{width, capacity, numbers_of, entry_from, start_from, entries_in, put_at, laid, stored, Small, AllSmall}

-- ---- records one after the other

next : (k : ℕ) → width * (k + 1) ≡ width * k + width
unfolding width
next k = omega arith

module _ (start : ℕ → ℕ) where
  length_laid : (es : List Entry) → length (laid start es) ≡ width * length es
  unfolding laid numbers_of width
  length_laid [] = refl
  length_laid (e ∷ es) = omega (arith, length_laid es)

  laid_snoc : (es : List Entry) (e : Entry) → laid start (es ++ (e ∷ [])) ≡ laid start es ++ numbers_of (start e.line) e
  unfolding laid
  laid_snoc [] e = append-nil (numbers_of (start e.line) e)
  laid_snoc (d ∷ es) e = rw (laid_snoc es e, append_assoc)

-- ---- the first record, and those after it

module _ (start : ℕ) (e : Entry) (more : List ℕ) where
  room_first : 0 < capacity (numbers_of start e ++ more)
  unfolding numbers_of capacity width
  room_first = omega arith

  entry_first : Small e → entry_from (numbers_of start e ++ more) 0 ≡ e
  unfolding entry_from width
  entry_first s = rw (lt-ltb 0 (capacity (numbers_of start e ++ more)) room_first) (read_back start e more s)

  start_first : start < 2 ^ 32 → start_from (numbers_of start e ++ more) 0 ≡ start
  unfolding start_from numbers_of width
  start_first h = rw (lt-ltb 0 (capacity (numbers_of start e ++ more)) room_first) (omega arith)

  capacity_later : capacity (numbers_of start e ++ more) ≡ suc (capacity more)
  unfolding numbers_of capacity width
  capacity_later = omega arith

  drop_later : (i : ℕ) → drop (width * suc i) (numbers_of start e ++ more) ≡ drop (width * i) more
  unfolding numbers_of width
  drop_later i =
      let a : width * suc i ≡ suc (suc (suc (suc (suc (suc (suc (suc (suc (suc (width * i)))))))))) = omega arith in
      rw a

  entry_later : (i : ℕ) → entry_from (numbers_of start e ++ more) (suc i) ≡ entry_from more i
  unfolding entry_from
  entry_later i = rw (capacity_later, drop_later i, leb-suc-suc)

  start_later : (i : ℕ) → start_from (numbers_of start e ++ more) (suc i) ≡ start_from more i
  unfolding start_from
  start_later i = rw (capacity_later, drop_later i, leb-suc-suc)

-- ---- a store with records in its first places

module _ (start : ℕ → ℕ) where
  pub stored_none : (l : List ℕ) → stored start [] l ≡ l
  unfolding stored laid width
  stored_none l = refl

  module _ (es : List Entry) (l : List ℕ) where
    pub length_stored : length es ≤ capacity l → length (stored start es l) ≡ length l
    unfolding stored capacity width
    length_stored h = simp (length-append, length-drop, length_laid start es) (omega arith)

    pub capacity_stored : length es ≤ capacity l → capacity (stored start es l) ≡ capacity l
    unfolding capacity
    capacity_stored h = rw (length_stored h)

    -- the next record put behind those that stand there
    pub put_stored : (e : Entry) → length es < capacity l
        → put_at (stored start es l) (length es) (start e.line) e ≡ stored start (es ++ (e ∷ [])) l
    unfolding put_at stored
    put_stored e h =
        let k = length es in
        let n : length (laid start es) ≡ width * k = length_laid start es in
        let at : width * (k + 1) ≡ width * k + width = next k in
        rw (capacity_stored (omega arith), lt-ltb k (capacity l) h, take_at (laid start es) (drop (width * k) l) (width * k) n, laid_snoc start es e, length-append, at, ← drop-drop width (width * k) l, ← drop-append-add (laid start es) (drop (width * k) l) width, n, append_assoc)

  -- the records that are stored are the records that are read
  read_laid : (es : List Entry) (more : List ℕ) → AllSmall es → entries_in (laid start es ++ more) (length es) ≡ es
  unfolding entries_in laid AllSmall
  read_laid [] more s = refl
  read_laid (e ∷ es) more s =
      let from = start e.line in
      rw (
        append_assoc (numbers_of from e) (laid start es) more,
        entry_first from e (laid start es ++ more) s.0,
        listed_same (length es) (λ i. entry_from (numbers_of from e ++ (laid start es ++ more)) (suc i)) (entry_from (laid start es ++ more)) (λ i l. entry_later from e (laid start es ++ more) i),
        read_laid es more s.1,
      )

  pub entries_stored : (es : List Entry) (l : List ℕ) → AllSmall es → entries_in (stored start es l) (length es) ≡ es
  unfolding stored
  entries_stored es l s = read_laid es (drop (width * length es) l) s

  -- and with each where its line starts
  start_laid : (es : List Entry) (more : List ℕ) (i : ℕ) → i < length es → start (entry_at es i).line < 2 ^ 32
      → start_from (laid start es ++ more) i ≡ start (entry_at es i).line
  unfolding laid entry_at
  start_laid [] more i h low = absurd (omega arith)
  start_laid (e ∷ es) more zero h low =
      rw (append_assoc (numbers_of (start e.line) e) (laid start es) more) (start_first (start e.line) e (laid start es ++ more) low)
  start_laid (e ∷ es) more (suc i) h low =
      rw (append_assoc (numbers_of (start e.line) e) (laid start es) more, start_later (start e.line) e (laid start es ++ more) i) (start_laid es more i (omega arith) low)

  pub start_stored : (es : List Entry) (l : List ℕ) (i : ℕ) → i < length es → start (entry_at es i).line < 2 ^ 32
      → start_from (stored start es l) i ≡ start (entry_at es i).line
  unfolding stored
  start_stored es l i h low = start_laid es (drop (width * length es) l) i h low

-- ---- the entries of a store, place by place

pub length_entries : (l : List ℕ) (n : ℕ) → length (entries_in l n) ≡ n
unfolding entries_in
length_entries l n = length_listed n (entry_from l)

pub entry_in : (l : List ℕ) (n i : ℕ) → i < n → entry_at (entries_in l n) i ≡ entry_from l i
unfolding entries_in entry_at
entry_in l n i h = listed_at n (entry_from l) i _ h
