-- A reading that comes to its end, line by line: each line is passed over, or listed with a time that is not below the last one of its
-- processor and with room for it. What holds of such a reading is proved by going along it.
use Rattle.std.specs.Prelude.{None, Ok}
use Prim.Native.Nat.{ℕ, ◌+◌, ◌<◌}
use mathlib.Core.Path.{◌≡◌, refl, sym, ap, ◌∙◌}
use mathlib.Core.Bool.{Bool, true, false, cond}
use mathlib.Core.List.{List, [], ◌∷◌}
use lib.ListN.{get_or}
use lib.IntN.{ℤ, pos}
use lib.Signed.{lt_z, ◌≤ℤ◌, lt_z_no, lt_z_yes, clash_ℤ}
use lib.Dec.{leb}
use borrow.Author.Tests.{leb-false, lt-leb}
use Rattle.paper.specs.Line.{line_of}
use Rattle.paper.specs.Reading.{Lines, done, unended, ended, State, Reading, with_entry, with_passed, with_listed, checked, on_line, read_from, lines_of, read_of, start}
use Rattle.paper.specs.declared.Choice.{Choice}
use Rattle.paper.specs.declared.Entry.{Entry}
use Rattle.paper.specs.declared.Fault.TheVariants as Fault
use Rattle.paper.specs.declared.Line.{Line}
use Rattle.paper.specs.declared.Line.TheVariants.{Refused, Passed, Listed}
use Rattle.paper.specs.declared.Record.{Record}
use Rattle.forms.proofs.Tests.{never}

pub not_below : (a b : ℤ) → b ≤ℤ a → lt_z a b ≡ false
not_below a b h = go (lt_z a b) refl
  where
    go : (t : Bool) → lt_z a b ≡ t → t ≡ false
    go true e = clash_ℤ (lt_z_yes (rw e tt)) h
    go false e = refl

-- the lines, read from line n and a state on, give these entries and end in this state
pub data Reads (choice : Choice) (most : ℕ) : Lines → ℕ → State → List Entry → State → Type 0 where
  ends : {n : ℕ} {st : State} → Reads choice most done n st [] st
  passes : {l : List ℕ} {x : Lines} {n : ℕ} {st st₁ : State} {es : List Entry} → line_of choice l ≡ Passed
      → Reads choice most x (n + 1) (with_passed st) es st₁ → Reads choice most (ended l x) n st es st₁
  lists : {l : List ℕ} {x : Lines} {n : ℕ} {st st₁ : State} {es : List Entry} {r : Record} → line_of choice l ≡ Listed r
      → get_or st.last r.processor (pos 0) ≤ℤ r.time → st.listed < most
      → Reads choice most x (n + 1) (with_listed st r) es st₁ → Reads choice most (ended l x) n st (record { line = n; body = r } ∷ es) st₁

-- ---- what a line that is not refused was

module _ (most : ℕ) (st : State) where
  listed_line_lem : (x : Line) (r : Record) → checked most st x ≡ Listed r
      → (x ≡ Listed r) × (get_or st.last r.processor (pos 0) ≤ℤ r.time) × (st.listed < most)
  unfolding checked
  listed_line_lem (Refused fault spot) r e = never (cc)
  listed_line_lem Passed r e = never (cc)
  listed_line_lem (Listed q) r e = go (lt_z q.time (get_or st.last q.processor (pos 0))) (leb most st.listed) refl refl e
    where
      go : (a b : Bool) → lt_z q.time (get_or st.last q.processor (pos 0)) ≡ a → leb most st.listed ≡ b
          → cond a (Refused Fault.Backwards None) (cond b (Refused Fault.TooMany None) (Listed q)) ≡ Listed r
          → (Listed q ≡ Listed r) × (get_or st.last r.processor (pos 0) ≤ℤ r.time) × (st.listed < most)
      go true b u v e = never (cc)
      go false true u v e = never (cc)
      go false false u v e =
          let same : q ≡ r = cc in
          let above : get_or st.last q.processor (pos 0) ≤ℤ q.time = lt_z_no (rw u tt) in
          (e, rw same at above, leb-false most st.listed v)

  passed_line : (x : Line) → checked most st x ≡ Passed → x ≡ Passed
  unfolding checked
  passed_line (Refused fault spot) e = e
  passed_line Passed e = refl
  passed_line (Listed q) e = go (lt_z q.time (get_or st.last q.processor (pos 0))) (leb most st.listed) e
    where
      go : (a b : Bool) → cond a (Refused Fault.Backwards None) (cond b (Refused Fault.TooMany None) (Listed q)) ≡ Passed → Listed q ≡ Passed
      go true b e = cc
      go false true e = cc
      go false false e = e

  -- and the other way round
  pub passed_checked : checked most st Passed ≡ Passed
  unfolding checked
  passed_checked = refl

  pub listed_checked : (r : Record) → get_or st.last r.processor (pos 0) ≤ℤ r.time → st.listed < most → checked most st (Listed r) ≡ Listed r
  unfolding checked
  listed_checked r above room = rw (not_below r.time _ above, lt-leb most st.listed room)

-- ---- there and back

module _ (choice : Choice) (most : ℕ) where
  pub reads : (x : Lines) (n : ℕ) (st : State) → (read_from choice most x n st).stop ≡ Ok tt
      → Reads choice most x n st (read_from choice most x n st).entries (read_from choice most x n st).state
  unfolding read_from on_line
  reads done n st e = ends
  reads (unended l) n st e = never (cc)
  reads (ended l x) n st e = go (λ st₁. read_from choice most x (n + 1) st₁) (λ st₁. reads x (n + 1) st₁) (checked most st (line_of choice l)) refl e
    where
      go : (more : State → Reading) → ((st₁ : State) → (more st₁).stop ≡ Ok tt → Reads choice most x (n + 1) st₁ (more st₁).entries (more st₁).state)
          → (y : Line) → checked most st (line_of choice l) ≡ y → (on_line n l st y more).stop ≡ Ok tt
          → Reads choice most (ended l x) n st (on_line n l st y more).entries (on_line n l st y more).state
      go more f (Refused fault spot) p e = never (cc)
      go more f Passed p e = passes (passed_line most st (line_of choice l) p) (f (with_passed st) e)
      go more f (Listed r) p e = let (q, above, room) = listed_line_lem most st (line_of choice l) r p in lists q above room (f (with_listed st r) e)

  pub read_back : {x : Lines} {n : ℕ} {st st₁ : State} {es : List Entry} → Reads choice most x n st es st₁
      → read_from choice most x n st ≡ record { stop = Ok tt; entries = es; state = st₁ }
  unfolding read_from on_line
  read_back ends = refl
  read_back (passes {st = st} p more) = rw (p, passed_checked most st) (read_back more)
  read_back (lists {n = n} {st = st} {r = r} p above room more) =
      rw (p, listed_checked most st r above room) (ap (with_entry (record { line = n; body = r })) (read_back more))

  -- ---- a trace

  pub along : (s : List ℕ) → (read_of choice most s).stop ≡ Ok tt → Reads choice most (lines_of s) 1 start (read_of choice most s).entries (read_of choice most s).state
  unfolding read_of
  along s e = reads (lines_of s) 1 start e

  pub along_back : (s : List ℕ) {st₁ : State} {es : List Entry} → Reads choice most (lines_of s) 1 start es st₁
      → read_of choice most s ≡ record { stop = Ok tt; entries = es; state = st₁ }
  unfolding read_of
  along_back s r = read_back r

-- ---- the limit does not show in a reading that comes to its end

same_along : {choice : Choice} {most most' : ℕ} {x : Lines} {n : ℕ} {st st₁ st₂ : State} {es fs : List Entry} → Reads choice most x n st es st₁
    → Reads choice most' x n st fs st₂ → (es ≡ fs) × (st₁ ≡ st₂)
same_along ends ends = (refl, refl)
same_along (passes p more) (passes q more') = same_along more more'
same_along (passes p more) (lists q above room more') = never (cc)
same_along (lists p above room more) (passes q more') = never (cc)
same_along (lists {n = n} {r = r} p above room more) (lists {r = r'} q above' room' more') =
    let same : r ≡ r' = cc in
    let (entries, state) = same_along (rw same at more) more' in
    (rw (same, entries), state)

pub one_reading : (choice : Choice) (most most' : ℕ) (s : List ℕ) → (read_of choice most s).stop ≡ Ok tt → (read_of choice most' s).stop ≡ Ok tt
    → read_of choice most s ≡ read_of choice most' s
one_reading choice most most' s e e' =
    let (entries, state) = same_along (along choice most s e) (along choice most' s e') in
    along_back choice most s (along choice most s e) ∙ (rw (entries, state)) ∙ sym (along_back choice most' s (along choice most' s e'))
