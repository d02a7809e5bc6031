-- The entries that a reading gives: as many as it lists, no more than there is room for, and each held whole by the store.
use Rattle.std.specs.Prelude.{None}
use Prim.Native.Nat.{ℕ, suc, ◌+◌, ◌≤◌, ◌<◌, ◌^◌}
use mathlib.Core.Path.{◌≡◌, refl, ◌∙◌}
use mathlib.Core.List.{List, []}
use mathlib.Core.Bool.{Bool, true, false, cond}
use native.Mathlib.Omega.{arith}
use lib.ListN.{length, get_or}
use lib.IntN.{pos}
use lib.Signed.{lt_z}
use lib.Dec.{leb}
use borrow.Author.Tests.{leb-false}
use Rattle.paper.specs.Line.{line_of}
use Rattle.paper.specs.Reading.{Lines, done, unended, ended, lines_of, State, Reading, start, checked, with_listed, with_passed, with_entry, on_line, read_from, read_of}
use Rattle.paper.specs.declared.Choice.{Choice}
use Rattle.paper.specs.declared.Fault.TheVariants as Fault
use Rattle.paper.specs.declared.Record.{Record}
use Rattle.paper.specs.declared.Line.{Line}
use Rattle.paper.specs.declared.Line.TheVariants.{Refused, Passed, Listed}
use Rattle.reading.specs.Joined.{line_count}
use Rattle.reading.specs.Tidy.{TidyRecord}
use Rattle.reading.proofs.Lines.{few_lines}
use Rattle.reading.proofs.Tidy.{tidy_line}
use Rattle.store.specs.Layout.{AllSmall}

-- a checked line is what it was, or refused
checked_listed : (most : ℕ) (st : State) (x : Line) (r : Record) → checked most st x ≡ Listed r → (x ≡ Listed r) × (st.listed < most)
unfolding checked
checked_listed most st (Refused fault spot) r e = absurd (let q : ◌≡◌ {A = ℕ} 0 1 = cc in omega arith)
checked_listed most st Passed r e = absurd (let q : ◌≡◌ {A = ℕ} 0 1 = cc in omega arith)
checked_listed most st (Listed q) r e = go (lt_z q.time (get_or st.last q.processor (pos 0))) (leb most st.listed) refl e
  where
    go : (a b : Bool) → leb most st.listed ≡ b → cond a (Refused Fault.Backwards None) (cond b (Refused Fault.TooMany None) (Listed q)) ≡ Listed r
        → (Listed q ≡ Listed r) × (st.listed < most)
    go true b p e = absurd (let z : ◌≡◌ {A = ℕ} 0 1 = cc in omega arith)
    go false true p e = absurd (let z : ◌≡◌ {A = ℕ} 0 1 = cc in omega arith)
    go false false p e = (e, leb-false most st.listed p)

-- ---- a property of readings, shown line by line

module _ (choice : Choice) (most : ℕ) (P : ℕ → State → ℕ → Reading → Type 0)
    (ends : (n : ℕ) (st : State) (k : ℕ) (r : Reading) → r.entries ≡ [] → r.state ≡ st → P n st k r)
    (passes : (n : ℕ) (st : State) (k : ℕ) (r : Reading) → P (n + 1) (with_passed st) k r → P n st (suc k) r)
    (lists : (n : ℕ) (st : State) (k : ℕ) (r : Reading) (b : Record) → TidyRecord b → st.listed < most → P (n + 1) (with_listed st b) k r
    → P n st (suc k) (with_entry (record { line = n; body = b }) r)) where
  on_line_lem : (n : ℕ) (l : List ℕ) (st : State) (k : ℕ) (x : Line) (more : State → Reading) → ((r : Record) → x ≡ Listed r → TidyRecord r × (st.listed < most))
      → ((st₁ : State) → P (n + 1) st₁ k (more st₁)) → P n st (suc k) (on_line n l st x more)
  unfolding on_line
  on_line_lem n l st k (Refused fault spot) more tidy later = ends n st (suc k) _ refl refl
  on_line_lem n l st k Passed more tidy later = passes n st k (more (with_passed st)) (later (with_passed st))
  on_line_lem n l st k (Listed r) more tidy later =
      let t = tidy r refl in lists n st k (more (with_listed st r)) r t.0 t.1 (later (with_listed st r))

  by_lines : (x : Lines) (n : ℕ) (st : State) → P n st (line_count x) (read_from choice most x n st)
  unfolding read_from line_count
  by_lines done n st = ends n st 0 _ refl refl
  by_lines (unended l) n st = ends n st 0 _ refl refl
  by_lines (ended l x) n st =
      on_line_lem n l st (line_count x) (checked most st (line_of choice l)) (λ st₁. read_from choice most x (n + 1) st₁)
      (λ r e. let q = checked_listed most st (line_of choice l) r e in (tidy_of r q.0, q.1))
      (λ st₁. by_lines x (n + 1) st₁)
    where
      tidy_of : (r : Record) → line_of choice l ≡ Listed r → TidyRecord r
      tidy_of r e = rw e at (tidy_line choice l)

-- ---- how many

record Counted (most : ℕ) (st : State) (r : Reading) : Type 0 where
  many : r.state.listed ≡ st.listed + length r.entries
  few : st.listed ≤ most → r.state.listed ≤ most

counted : (choice : Choice) (most : ℕ) (x : Lines) (n : ℕ) (st : State) → Counted most st (read_from choice most x n st)
unfolding with_passed with_listed
counted choice most =
    by_lines choice most (λ n st k r. Counted most st r)
    (λ n st k r e s. record { many = rw (e, s) (omega arith); few = λ h. rw s h })
    (λ n st k r h. record { many = h.many; few = h.few })
    (λ n st k r b t l h. record { many = omega (arith, h.many); few = λ m. h.few (omega arith) })

pub listed_many : (choice : Choice) (most : ℕ) (s : List ℕ) → (read_of choice most s).state.listed ≡ length (read_of choice most s).entries
unfolding read_of start
listed_many choice most s = (counted choice most (lines_of s) 1 start).many ∙ omega arith

pub listed_few : (choice : Choice) (most : ℕ) (s : List ℕ) → length (read_of choice most s).entries ≤ most
unfolding read_of start
listed_few choice most s = rw (← listed_many choice most s) ((counted choice most (lines_of s) 1 start).few (omega arith))

-- ---- held whole

small : (choice : Choice) (most : ℕ) (x : Lines) (n : ℕ) (st : State) → n + line_count x ≤ 2 ^ 32 → AllSmall (read_from choice most x n st).entries
unfolding AllSmall
small choice most =
    by_lines choice most (λ n st k r. n + k ≤ 2 ^ 32 → AllSmall r.entries)
    (λ n st k r e s h. rw e tt)
    (λ n st k r h m. h (omega arith))
    (λ n st k r b t l h m. (record { line = omega arith; tidy = t }, h (omega arith)))

pub entries_small : (choice : Choice) (most : ℕ) (s : List ℕ) → length s < 2 ^ 32 → AllSmall (read_of choice most s).entries
unfolding read_of
entries_small choice most s h = small choice most (lines_of s) 1 start (omega (arith, few_lines s))
