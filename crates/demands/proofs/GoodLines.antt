-- The lines before a line are good exactly if the reading comes to it, and it stops where the rows say.
use Rattle.std.specs.Prelude.{Option, Result, Some, None, Ok, Err}
use Prim.Native.Nat.{ℕ, suc, ◌+◌, ◌≤◌, ◌<◌}
use native.Mathlib.Omega.{arith}
use native.Mathlib.Decide.{ℕ_discrete}
use mathlib.Core.Path.{◌≡◌, refl, sym, ap, ◌∙◌}
use mathlib.Core.Bool.{Bool, true, false, cond}
use mathlib.Core.List.{List, [], ◌∷◌, ◌++◌, append_assoc, append-nil}
use lib.ListN.{length, get_or, set, length-append, length-set, get_or-replicate}
use lib.Seq.{get_or-append_seam, get_or-set_same, get_or-set_other}
use lib.IntN.{ℤ, pos, negsuc}
use lib.Signed.{lt_z, lt_z_yes, lt_z_no, clash_ℤ}
use lib.Dec.{eqb, leb}
use borrow.Author.Tests.{eq-eqb, ne_eqb, leb-true, leb-false, le-leb, lt-leb, le-ltb}
use Rattle.paper.specs.Line.{line_of}
use Rattle.paper.specs.Numbers.{number_of}
use Rattle.paper.specs.Columns.{past_end, column_in, in_line, refused_at}
use Rattle.paper.specs.Reading.{Lines, done, unended, ended, State, start, Reading, checked, with_passed, with_listed, with_entry, on_line, read_from}
use Rattle.paper.specs.Matching.{entry_at, last_of, last_on}
use Rattle.paper.specs.declared.Choice.{Choice}
use Rattle.paper.specs.declared.Entry.{Entry}
use Rattle.paper.specs.declared.Fault.{Fault}
use Rattle.paper.specs.declared.Line.{Line}
use Rattle.paper.specs.declared.Line.TheVariants.{Refused, Passed, Listed}
use Rattle.paper.specs.declared.Record.{Record}
use Rattle.paper.specs.declared.Refusal.{Refusal}
use Rattle.reading.specs.Joined.{behind}
use Rattle.reading.specs.Tidy.{InRange}
use Rattle.reading.proofs.Tidy.{tidy_record, time_of_line}
use Rattle.matching.proofs.Before.{last_on_lem}
use Rattle.matching.proofs.FirstLines.{entry_stays, last_stays}
use Rattle.demands.specs.Steps.{original}
use Rattle.demands.specs.Before.{Below, Good, none_before, passed_over, listed}
use Rattle.demands.specs.Rows.{Backwards, TooMany}
use Rattle.demands.proofs.Stops.{OfALine}
use Rattle.demands.proofs.InOrder.{start_size}
use Rattle.demands.proofs.LineRows.{RowIn, row_number, refused_row, row_refused}

-- ---- the state that some listed records leave

abbrev time_on : List Entry → Option ℕ → ℤ
time_on es None = negsuc 999999999999998
time_on es (Some k) = original es k

abbrev last_time : List Entry → ℕ → ℤ
last_time es p = time_on es (last_on es p (length es))

record Held (es : List Entry) (st : State) : Type 0 where
  size : length st.last ≡ 64
  count : st.listed ≡ length es
  last : (p : ℕ) → p < 64 → get_or st.last p (pos 0) ≡ last_time es p

held_start : Held [] start
unfolding start last_of
held_start = record { size = start_size; count = refl; last = λ p h. get_or-replicate 64 p (negsuc 999999999999998) (pos 0) h }

held_passed : {es : List Entry} {st : State} → Held es st → Held es (with_passed st)
unfolding with_passed
held_passed h = record { size = h.size; count = h.count; last = h.last }

-- one record more
module _ (es : List Entry) (e : Entry) where
  abbrev more : List Entry
  more = es ++ (e ∷ [])

  last_entry : entry_at more (length es) ≡ e
  unfolding entry_at
  last_entry = get_or-append_seam es e [] _

  length_more : length more ≡ suc (length es)
  length_more = simp length-append (omega arith)

  time_stays : (p : ℕ) (o : Option ℕ) → last_on es p (length es) ≡ o → time_on more o ≡ time_on es o
  time_stays p None q = refl
  time_stays p (Some k) q = ap (λ (f : Entry). f.body.time) (entry_stays es (e ∷ []) k (last_on_lem es p (length es) k q).before)

  last_more : (p : ℕ) → last_time more p ≡ cond (eqb e.body.processor p) e.body.time (last_time es p)
  unfolding last_of
  last_more p =
      rw (length_more, last_entry, last_stays es (e ∷ []) p (length es) (omega arith)) (go (eqb e.body.processor p))
    where
      go : (t : Bool) → time_on more (cond t (Some (length es)) (last_on es p (length es))) ≡ cond t e.body.time (last_time es p)
      go true = ap (λ (f : Entry). f.body.time) last_entry
      go false = time_stays p _ refl

  held_listed : {st : State} → Held es st → e.body.processor < 64 → Held more (with_listed st e.body)
  unfolding with_listed
  held_listed {st} h l =
      record {
        size = rw length-set h.size;
        count = rw length_more (omega (arith, h.count));
        last = λ p q. go p q (ℕ_discrete p e.body.processor);
      }
    where
      go : (p : ℕ) → p < 64 → Dec (p ≡ e.body.processor) → get_or (set st.last e.body.processor e.body.time) p (pos 0) ≡ last_time more p
      go p q (yes z) =
          rw (z, get_or-set_same st.last e.body.processor e.body.time (pos 0) (omega (arith, h.size)))
          (sym (last_more e.body.processor ∙ rw (eq-eqb e.body.processor e.body.processor refl)))
      go p q (no z) =
          get_or-set_other st.last e.body.processor p e.body.time (pos 0) z ∙ h.last p q
          ∙ sym (last_more p ∙ rw (ne_eqb e.body.processor p (λ w. z (sym w))))

-- ---- 11 is looked for in the state as in the records

-- no time that the format holds is below the least
above_least : (t : ℤ) → InRange t → lt_z t (negsuc 999999999999998) ≡ false
above_least (pos n) h = refl
above_least (negsuc n) h = le-ltb 999999999999998 n (omega arith)

module _ (es : List Entry) (st : State) (h : Held es st) (r : Record) (range : InRange r.time) (place : r.processor < 64) where
  abbrev is_below : Bool
  is_below = lt_z r.time (get_or st.last r.processor (pos 0))

  below_is : is_below ≡ lt_z r.time (last_time es r.processor)
  below_is = rw (h.last r.processor place)

  not_below : is_below ≡ false → ¬ Below es r
  not_below t (k, q, l) = let f : lt_z r.time (original es k) ≡ false = rw q at (sym below_is ∙ t) in clash_ℤ l (lt_z_no (rw f tt))

  below : is_below ≡ true → Below es r
  below t = go (last_on es r.processor (length es)) refl (sym below_is ∙ t)
    where
      go : (o : Option ℕ) → last_on es r.processor (length es) ≡ o → lt_z r.time (time_on es o) ≡ true → Below es r
      go None q t = let f = above_least r.time range in absurd (let z : ◌≡◌ {A = ℕ} 0 1 = cc in omega arith)
      go (Some k) q t = (k, q, lt_z_yes (rw t tt))

  is_below_lem : Below es r → is_below ≡ true
  is_below_lem b = go is_below refl
    where
      go : (t : Bool) → is_below ≡ t → t ≡ true
      go true e = refl
      go false e = absurd (not_below e b)

  no_below : ¬ Below es r → is_below ≡ false
  no_below n = go is_below refl
    where
      go : (t : Bool) → is_below ≡ t → t ≡ false
      go true e = absurd (n (below e))
      go false e = refl

module _ (choice : Choice) (limit : ℕ) (lines : Lines) where
  -- ---- the reading comes to a line before which all are good

  few_good : {n : ℕ} {es : List Entry} {rest : Lines} → Good choice limit lines n es rest → length es ≤ limit
  few_good none_before = omega arith
  few_good (passed_over g p) = few_good g
  few_good (listed {n = n} {es = es} {r = r} g p b room) = rw (length_more es (record { line = n; body = r })) (omega arith)

  -- a line passed over, and a listed one
  module _ (l : List ℕ) (rest : Lines) (n : ℕ) (st : State) where
    passed_step : line_of choice l ≡ Passed → read_from choice limit (ended l rest) n st ≡ read_from choice limit rest (n + 1) (with_passed st)
    unfolding read_from checked on_line
    passed_step p = rw p

    listed_step : (r : Record) → line_of choice l ≡ Listed r → lt_z r.time (get_or st.last r.processor (pos 0)) ≡ false → st.listed < limit
        → read_from choice limit (ended l rest) n st
        ≡ with_entry (record { line = n; body = r }) (read_from choice limit rest (n + 1) (with_listed st r))
    unfolding read_from checked on_line
    listed_step r p b room = rw (p, b, lt-leb limit st.listed room)

  behind_more : (es : List Entry) (e : Entry) (r : Reading) → behind es (with_entry e r) ≡ behind (es ++ (e ∷ [])) r
  behind_more es e r = rw (append_assoc es (e ∷ []) r.entries)

  -- the state there, and what is read from there on
  record Comes (n : ℕ) (es : List Entry) (rest : Lines) : Type 0 where
    state : State
    held : Held es state
    reads : read_from choice limit lines 1 start ≡ behind es (read_from choice limit rest n state)

  comes : {n : ℕ} {es : List Entry} {rest : Lines} → Good choice limit lines n es rest → Comes n es rest
  comes none_before = record { state = start; held = held_start; reads = refl }
  comes (passed_over {n = n} {es = es} {l = l} {rest = rest} g p) =
      let c = comes g in
      record {
        state = with_passed c.state;
        held = held_passed c.held;
        reads = c.reads ∙ ap (behind es) (passed_step l rest n c.state p);
      }
  comes (listed {n = n} {es = es} {l = l} {rest = rest} {r = r} g p b room) =
      let c = comes g in
      let place = (tidy_record choice l r p).processor in
      let e : Entry = record { line = n; body = r } in
      let above = no_below es c.state c.held r (time_of_line choice l r p) place b in
      record {
        state = with_listed c.state r;
        held = held_listed es e c.held place;
        reads = c.reads ∙ ap (behind es) (listed_step l rest n c.state r p above (omega (arith, c.held.count)))
            ∙ behind_more es e (read_from choice limit rest (n + 1) (with_listed c.state r));
      }

  -- ---- what is bad there

  -- with the column
  pub data StopsOn (es : List Entry) : Fault → Lines → ℕ → Type 0 where
    no_end : {l : List ℕ} → StopsOn es Fault.Form (unended l) (past_end l)
    in_line_lem : {fault : Fault} {spot : Option ℕ} {l : List ℕ} {x : Lines} → RowIn choice l fault spot
        → StopsOn es fault (ended l x) (column_in l spot)
    backwards : {l : List ℕ} {x : Lines} → Backwards es choice l → StopsOn es Fault.Backwards (ended l x) 0
    too_many_lem : {l : List ℕ} {x : Lines} → TooMany limit es choice l → StopsOn es Fault.TooMany (ended l x) 0

  pub stops_number : {es : List Entry} {fault : Fault} {rest : Lines} {column : ℕ} → StopsOn es fault rest column → OfALine fault
  unfolding number_of
  stops_number no_end = (omega arith, omega arith)
  stops_number (in_line_lem row) = let (low, high) = row_number row in (low, omega (arith, high))
  stops_number (backwards r) = (omega arith, omega arith)
  stops_number (too_many_lem r) = (omega arith, omega arith)

  stop_here : (n : ℕ) (es : List Entry) (st : State) → Held es st → {fault : Fault} {rest : Lines} {column : ℕ} → StopsOn es fault rest column
      → (read_from choice limit rest n st).stop ≡ refused_at fault (in_line n column)
  unfolding read_from checked on_line column_in
  stop_here n es st h no_end = refl
  stop_here n es st h (in_line_lem {l = l} row) = rw (row_refused choice l row)
  stop_here n es st h (backwards {l = l} (r, p, b)) =
      rw (p, is_below_lem es st h r (time_of_line choice l r p) (tidy_record choice l r p).processor b)
  stop_here n es st h (too_many_lem {l = l} (r, p, b, full)) =
      rw (
        p,
        no_below es st h r (time_of_line choice l r p) (tidy_record choice l r p).processor b,
        le-leb limit st.listed (omega (arith, h.count)),
      )

  pub stops_there : {n : ℕ} {es : List Entry} {rest : Lines} → Good choice limit lines n es rest → {fault : Fault} {column : ℕ} → StopsOn es fault rest column
      → (read_from choice limit lines 1 start).stop ≡ refused_at fault (in_line n column)
  stops_there {n} {es} g s =
      let c = comes g in ap (λ (r : Reading). r.stop) c.reads ∙ stop_here n es c.state c.held s

  pub ends_there : {n : ℕ} {es : List Entry} → Good choice limit lines n es done
      → ((read_from choice limit lines 1 start).stop ≡ Ok tt) × ((read_from choice limit lines 1 start).entries ≡ es)
  unfolding read_from
  ends_there {n} {es} g =
      let c = comes g in
      (ap (λ (r : Reading). r.stop) c.reads, ap (λ (r : Reading). r.entries) c.reads ∙ append-nil es)

  -- ---- and where the reading stops it has come to

  abbrev pub Stopped : Result Unit Refusal → Type 0
  Stopped (Ok tt) = (n : ℕ) × (es : List Entry) × Good choice limit lines n es done
  Stopped (Err refusal) =
      (es : List Entry) × (rest : Lines) × Good choice limit lines refusal.site.line es rest × StopsOn es refusal.fault rest refusal.site.column

  walk : (rest : Lines) (n : ℕ) (es : List Entry) (st : State) → Good choice limit lines n es rest → Held es st
      → Stopped (read_from choice limit rest n st).stop
  unfolding read_from on_line checked column_in
  walk done n es st g h = (n, es, g)
  walk (unended l) n es st g h = (es, unended l, g, no_end)
  walk (ended l x) n es st g h = go (λ m fs st₁. walk x m fs st₁) (line_of choice l) refl
    where
      go : ((m : ℕ) (fs : List Entry) (st₁ : State) → Good choice limit lines m fs x → Held fs st₁ → Stopped (read_from choice limit x m st₁).stop)
          → (y : Line) → line_of choice l ≡ y → Stopped (on_line n l st (checked limit st y) (λ st₁. read_from choice limit x (n + 1) st₁)).stop
      go f (Refused fault spot) p = (es, ended l x, g, in_line_lem (refused_row choice l fault spot p))
      go f Passed p = f (n + 1) es (with_passed st) (passed_over g p) (held_passed h)
      go f (Listed r) p = on_listed _ refl _ refl
        where
          range : InRange r.time
          range = time_of_line choice l r p

          place : r.processor < 64
          place = (tidy_record choice l r p).processor

          on_listed : (t : Bool) → lt_z r.time (get_or st.last r.processor (pos 0)) ≡ t → (b : Bool) → leb limit st.listed ≡ b
              → Stopped (on_line n l st (cond t (Refused Fault.Backwards None) (cond b (Refused Fault.TooMany None) (Listed r)))
              (λ st₁. read_from choice limit x (n + 1) st₁)).stop
          on_listed true a b c = (es, ended l x, g, backwards (r, p, below es st h r range place a))
          on_listed false a true c =
              (es, ended l x, g, too_many_lem (r, p, not_below es st h r range place a, omega (arith, h.count, few_good g, leb-true limit st.listed c)))
          on_listed false a false c =
              f (n + 1) (es ++ (record { line = n; body = r } ∷ [])) (with_listed st r)
              (listed g p (not_below es st h r range place a) (omega (arith, h.count, leb-false limit st.listed c)))
              (held_listed es (record { line = n; body = r }) h place)

  pub stopped_there : Stopped (read_from choice limit lines 1 start).stop
  stopped_there = walk lines 1 [] start none_before held_start
