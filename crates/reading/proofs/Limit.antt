-- A reading that comes to its end under one limit: under another one it comes to its end exactly if that is not below the number of listed
-- records, and otherwise it is refused by 12.
use Rattle.std.specs.Prelude.{None, Ok}
use Prim.Native.Nat.{ℕ, ◌+◌, ◌≤◌, ◌<◌}
use native.Mathlib.Omega.{arith}
use mathlib.Core.Path.{◌≡◌, refl}
use mathlib.Core.Bool.{Bool, true, false}
use mathlib.Core.List.{List}
use lib.ListN.{length, get_or}
use lib.IntN.{pos}
use lib.Signed.{◌≤ℤ◌}
use lib.Dec.{leb}
use borrow.Author.Tests.{leb-false}
use Rattle.paper.specs.Columns.{column_in, whole_line, refused_at}
use Rattle.paper.specs.Reading.{Lines, ended, State, start, with_passed, with_listed, checked, on_line, read_from, lines_of, read_of}
use Rattle.paper.specs.declared.Choice.{Choice}
use Rattle.paper.specs.declared.Entry.{Entry}
use Rattle.paper.specs.declared.Fault.TheVariants as Fault
use Rattle.paper.specs.declared.Line.TheVariants.{Refused, Listed}
use Rattle.paper.specs.declared.Record.{Record}
use Rattle.reading.proofs.Along.{Reads, ends, passes, lists, not_below, passed_checked, listed_checked, along_back}

full_checked : (limit : ℕ) (st : State) (r : Record) → get_or st.last r.processor (pos 0) ≤ℤ r.time → leb limit st.listed ≡ true
    → checked limit st (Listed r) ≡ Refused Fault.TooMany None
unfolding checked
full_checked limit st r above full = rw (not_below r.time _ above, full)

-- the line that is refused by 12
abbrev pub StopsFull : Choice → ℕ → Lines → ℕ → State → Type 0
StopsFull choice limit x n st = (k : ℕ) × ((read_from choice limit x n st).stop ≡ refused_at Fault.TooMany (whole_line k))

module _ {choice : Choice} {most : ℕ} (limit : ℕ) where
  pub within_limit : {x : Lines} {n : ℕ} {st st₁ : State} {es : List Entry} → Reads choice most x n st es st₁
      → st.listed + length es ≤ limit → Reads choice limit x n st es st₁
  unfolding with_passed with_listed
  within_limit ends h = ends
  within_limit (passes p more) h = passes p (within_limit more h)
  within_limit (lists {st = st} p above room more) h = lists {st = st} p above (omega arith) (within_limit more (omega arith))

  pub past_limit : {x : Lines} {n : ℕ} {st st₁ : State} {es : List Entry} → Reads choice most x n st es st₁
      → st.listed ≤ limit → limit < st.listed + length es → StopsFull choice limit x n st
  unfolding with_passed with_listed read_from on_line column_in
  past_limit ends low h = absurd (omega arith)
  past_limit (passes {st = st} p more) low h = rw (p, passed_checked limit st) (past_limit more low h)
  past_limit (lists {l = l} {x = x} {n = n} {st = st} {r = r} p above room more) low h =
      go (leb limit st.listed) refl (λ low₁. past_limit more low₁ (omega arith))
    where
      go : (t : Bool) → leb limit st.listed ≡ t → (st.listed + 1 ≤ limit → StopsFull choice limit x (n + 1) (with_listed st r))
          → StopsFull choice limit (ended l x) n st
      go true full later = (n, rw (p, full_checked limit st r above full))
      go false t later =
          let room₁ = leb-false limit st.listed t in
          rw (p, listed_checked limit st r above room₁) (later (omega (arith, room₁)))

-- ---- a trace

module _ (choice : Choice) {most : ℕ} (limit : ℕ) (s : List ℕ) {es : List Entry} {st₁ : State} (r : Reads choice most (lines_of s) 1 start es st₁) where
  pub trace_within : length es ≤ limit → read_of choice limit s ≡ record { stop = Ok tt; entries = es; state = st₁ }
  unfolding start
  trace_within h = along_back choice limit s (within_limit limit r (omega arith))

  pub trace_past : limit < length es → (k : ℕ) × ((read_of choice limit s).stop ≡ refused_at Fault.TooMany (whole_line k))
  unfolding start read_of
  trace_past h = past_limit limit r (omega arith) (omega arith)
