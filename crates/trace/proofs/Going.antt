-- The loops over the lines: what holds at their heads, the ways out, and a line listed or passed over.
use Rattle.std.specs.Prelude.{Option, Result, Some, None, Ok}
use Prim.Native.Nat.{ℕ, suc, ◌+◌, ◌-◌, ◌≤◌, ◌<◌}
use mathlib.Core.Path.{◌≡◌, refl, sym, ap, ◌∙◌}
use mathlib.Core.List.{List, [], ◌∷◌, ◌++◌, append-nil}
use mathlib.Core.Bool.{Bool, true, false}
use native.Mathlib.Omega.{arith}
use native.Mathlib.Numerals.{add-one}
use lib.ListN.{length, take, drop, get_or, set, length-append, length-set, length-drop, drop_of_length-le}
use lib.Seq.{append_snoc, length-take-le}
use lib.IntN.{ℤ, pos}
use lib.Signed.{lt_z}
use borrow.Author.Tests.{le-leb, lt-leb}
use Rattle.octets.specs.Octets.{index_of}
use Rattle.paper.specs.Line.{line_of}
use Rattle.paper.specs.Columns.{column_in, in_line, whole_line, refused_at}
use Rattle.paper.specs.Reading.{lines_of, start, checked, with_listed, with_passed, on_line, read_from, read_of}
use Rattle.paper.specs.declared.Choice.{Choice}
use Rattle.paper.specs.declared.Fault.{Fault}
use Rattle.paper.specs.declared.Record.{Record}
use Rattle.paper.specs.declared.Entry.{Entry}
use Rattle.paper.specs.declared.Line.{Line}
use Rattle.paper.specs.declared.Line.TheVariants.{Refused, Passed, Listed}
use Rattle.reading.specs.Joined.{behind}
use Rattle.reading.specs.Starts.{bytes_before, start_of}
use Rattle.reading.specs.Places.{line_at, next_line}
use Rattle.reading.proofs.Found.{ended_at, next_at, unended_here, line_here, next_here}
use Rattle.reading.proofs.Tidy.{tidy_record}
use Rattle.line.specs.Quick.{Here, QuickAt}
use Rattle.store.specs.Layout.{capacity, put_at}
use Rattle.store.proofs.Laws.{stored_none, put_stored}
use Rattle.trace.specs.Read.{ReadInto, answer_of}
use Rattle.trace.specs.Going.{Going, state}
use Rattle.paper.specs.declared.Refusal.{Refusal}

pub going_start : (choice : Choice) (s store₀ : List ℕ) (most : ℕ) → most ≡ capacity store₀
    → Going choice s store₀ most store₀ start.last 0 0 0 1
unfolding start read_of start_of
going_start choice s store₀ most e =
    record {
      room = e;
      long = refl;
      wide = refl;
      inside = omega arith;
      line = omega arith;
      counts = omega arith;
      put = [];
      many = refl;
      holds = sym (stored_none (start_of s) store₀);
      starts = λ k. let from : 1 + k - 1 ≡ k = omega arith in let none : 0 + bytes_before k (lines_of s) ≡ bytes_before k (lines_of s) = omega arith in rw (from, none);
      reads = refl;
    }

-- ---- the line that is next

module _ {choice : Choice} {s : List ℕ} {at : ℕ} {x : Line} where
  -- by the search for its LF
  pub searched : (end : ℕ) → (end ≡ at + index_of 10 (drop at s)) × (end ≤ length s) → (end ≡ length s → ⊥)
      → x ≡ line_of choice (take (end - at) (drop at s)) → Here choice s at x (end + 1)
  searched end found is-line is =
      record { reads = is ∙ ap (line_of choice) (line_here s at end found.0); ends = next_here s at end found.0; near = omega (arith, found.1) }

  -- by a quick answer
  pub answered : {next : ℕ} {q : Option (Line × ℕ)} → QuickAt choice s at q → q ≡ Some (x, next) → Here choice s at x next
  unfolding QuickAt
  answered told e = rw e at told

  pub further : {next : ℕ} → Here choice s at x next → at < next
  unfolding next_line
  further here = omega (arith, here.ends)

  -- a turn leaves less of the trace
  pub shorter : {next : ℕ} → Here choice s at x next → length s - next < length s - at
  shorter here = omega (arith, further here, here.near)

-- the column of what decides in it
pub column_here : (s : List ℕ) (at end : ℕ) → end ≡ at + index_of 10 (drop at s) → (spot : Option ℕ) {column : ℕ}
    → column ≡ column_in (take (end - at) (drop at s)) spot → column ≡ column_in (line_at s at) spot
column_here s at end found spot is = rw (line_here s at end found) at is

-- ---- a turn

-- two times compared as the machine holds them
pub compared : {early : Bool} {a b x y : ℤ} → early ≡ lt_z a b → a ≡ x → b ≡ y → early ≡ lt_z x y
compared tells p q = rw (← p, ← q) tells

module _ {choice : Choice} {s store₀ : List ℕ} {most : ℕ} {store : List ℕ} {last : List ℤ} {listed passed at n : ℕ}
    (going : Going choice s store₀ most store last listed passed at n) where
  -- line n starts here
  starts_here : start_of s n ≡ at
  unfolding bytes_before
  starts_here =
      let step : n ≡ n + 0 = omega arith in
      let none : at + 0 ≡ at = omega arith in
      ap (start_of s) step ∙ going.starts 0 ∙ none

  -- where the reading from here on ends at once
  stopped : (x : Result Unit Refusal) → read_from choice most (lines_of (drop at s)) n (state last listed passed) ≡ record { stop = x; entries = []; state = state last listed passed }
      → ReadInto choice s store₀ (record { stop = x; listed = listed; passed = passed }) store
  unfolding answer_of
  stopped x e =
      let whole : behind going.put (record { stop = x; entries = []; state = state last listed passed }) ≡ read_of choice (capacity store₀) s =
      rw going.room at (sym (ap (behind going.put) e) ∙ going.reads) in
      record {
        answer = rw (← whole);
        holds = rw (← whole) (rw append-nil going.holds);
      }

  pub at_end : length s ≤ at → ReadInto choice s store₀ (record { stop = (Ok tt); listed = listed; passed = passed }) store
  unfolding read_from lines_of
  at_end h = stopped (Ok tt) (rw (drop_of_length-le s h))

  -- "no LF at its end (5)"
  pub at_unended : (end : ℕ) → at < length s → end ≡ at + index_of 10 (drop at s) → end ≡ length s
      → ReadInto choice s store₀ (record { stop = refused_at Fault.Form (in_line n (end - at + 1)); listed = listed; passed = passed }) store
  unfolding read_from
  at_unended end some_left found e =
      let long : length (take (end - at) (drop at s)) ≡ end - at = length-take-le (end - at) (drop at s) (simp length-drop (omega arith)) in
      stopped (refused_at Fault.Form (in_line n (end - at + 1))) (rw (unended_here s at end found some_left e, long, add-one))

  -- an ended line
  module _ {x : Line} {next : ℕ} (here : Here choice s at x next) where
    near : next_line s at ≤ length s
    near = rw here.ends at here.near

    -- what the line comes to, and the lines after it
    onward : read_from choice most (lines_of (drop at s)) n (state last listed passed)
        ≡ on_line n (line_at s at) (state last listed passed) (checked most (state last listed passed) x)
        (λ st. read_from choice most (lines_of (drop next s)) (n + 1) st)
    unfolding read_from
    onward = rw (here.reads, here.ends, ended_at s at near)

    -- where the lines after it start
    starts_on : (k : ℕ) → start_of s (n + 1 + k) ≡ next + bytes_before k (lines_of (drop next s))
    unfolding bytes_before
    starts_on k =
        let step : n + 1 + k ≡ n + suc k = omega arith in
        rw (step, going.starts (suc k), ended_at s at near, here.ends) (omega (arith, next_at s at near))

    refuses : (fault : Fault) (spot : Option ℕ) → checked most (state last listed passed) x ≡ Refused fault spot
        → ReadInto choice s store₀ (record { stop = refused_at fault (in_line n (column_in (line_at s at) spot)); listed = listed; passed = passed }) store
    unfolding on_line
    refuses fault spot e = stopped (refused_at fault (in_line n (column_in (line_at s at) spot))) (onward ∙ rw e)

    pub line_refused : (fault : Fault) (spot : Option ℕ) → x ≡ Refused fault spot → {column : ℕ} → column ≡ column_in (line_at s at) spot
        → ReadInto choice s store₀ (record { stop = refused_at fault (in_line n column); listed = listed; passed = passed }) store
    unfolding checked
    line_refused fault spot e q = rw q (refuses fault spot (rw e))

    pub line_passed : x ≡ Passed → Going choice s store₀ most store last listed (passed + 1) next (n + 1)
    unfolding on_line checked with_passed
    line_passed e =
        record {
          room = going.room;
          long = going.long;
          wide = going.wide;
          inside = here.near;
          line = omega (arith, going.line, further here);
          counts = omega (arith, going.counts, further here);
          put = going.put;
          many = going.many;
          holds = going.holds;
          starts = starts_on;
          reads = ap (behind going.put) (sym (onward ∙ rw e)) ∙ going.reads;
        }

    module _ (r : Record) (lists : x ≡ Listed r) (early : Bool) (tells : early ≡ lt_z r.time (get_or last r.processor (pos 0))) where
      pub line_backwards : early ≡ true
          → ReadInto choice s store₀ (record { stop = refused_at Fault.Backwards (whole_line n); listed = listed; passed = passed }) store
      unfolding checked column_in
      line_backwards e = refuses Fault.Backwards None (rw (lists, sym tells ∙ e))

      module _ (not-early : early ≡ false) where
        in_order : lt_z r.time (get_or last r.processor (pos 0)) ≡ false
        in_order = sym tells ∙ not-early

        pub line_too_many : most ≤ listed → ReadInto choice s store₀ (record { stop = refused_at Fault.TooMany (whole_line n); listed = listed; passed = passed }) store
        unfolding checked column_in
        line_too_many h = refuses Fault.TooMany None (rw (lists, in_order, le-leb most listed h))

        pub line_listed : listed < most → (store₁ : List ℕ) → store₁ ≡ put_at store listed at (record { line = n; body = r }) → length store₁ ≡ length store → (u : ℤ) → u ≡ r.time
            → Going choice s store₀ most store₁ (set last r.processor u) (listed + 1) passed next (n + 1)
        unfolding on_line checked with_listed
        line_listed h store₁ puts same-long u same_time =
            let e : Entry = record { line = n; body = r } in
            let at_n : start_of s n ≡ at = starts_here in
            record {
              room = going.room;
              long = same-long ∙ going.long;
              wide = length-set last r.processor u ∙ going.wide;
              inside = here.near;
              line = omega (arith, going.line, further here);
              counts = omega (arith, going.counts, further here);
              put = going.put ++ (e ∷ []);
              many = simp length-append (omega (arith, going.many));
              holds = puts ∙ rw (going.holds, ← going.many, ← at_n) (put_stored (start_of s) going.put store₀ e (omega (arith, going.many, going.room)));
              starts = starts_on;
              reads = rw (same_time, append_snoc) (ap (behind going.put) (sym (onward ∙ rw (lists, in_order, lt-leb most listed h))) ∙ going.reads);
            }

-- a listed record's processor is one of the sixty-four
pub processor_in : (choice : Choice) (l : List ℕ) (x : Line) → x ≡ line_of choice l → (r : Record) → x ≡ Listed r → r.processor < 64
processor_in choice l x is r e = (tidy_record choice l r (sym is ∙ e)).processor
