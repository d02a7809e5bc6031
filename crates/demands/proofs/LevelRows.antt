-- Row 17: what the levels of some records come to is what the row says of them.
use Rattle.std.specs.Prelude.{Option, Result, Some, None, Ok, Err, option_map}
use Prim.Native.Nat.{ℕ, zero, suc, ◌+◌, ◌≤◌, ◌<◌}
use native.Mathlib.Omega.{arith}
use native.Mathlib.Decide.{dec_lt}
use mathlib.Core.Path.{◌≡◌, refl, sym, ap, ◌∙◌}
use mathlib.Core.Logic.{◌↔◌}
use mathlib.Core.Bool.{Bool, true, false, cond}
use mathlib.Core.List.{List}
use lib.ListN.{length}
use lib.IntN.{ℤ, negsuc}
use lib.Dec.{eqb}
use borrow.Author.Tests.{eqb-true, eq-eqb}
use Rattle.paper.specs.Tests.{eq_z}
use Rattle.paper.specs.Columns.{whole_line, refused_at}
use Rattle.paper.specs.Levels.{is_three, counts, is_mark, last_mark, expected, agrees, off_at, on_off, levels_from, levels_of}
use Rattle.paper.specs.Matching.{entry_at, is_on, last_on}
use Rattle.paper.specs.declared.Asked.{Asked}
use Rattle.paper.specs.declared.Data.{Data}
use Rattle.paper.specs.declared.Data.TheVariants.{Three, Others}
use Rattle.paper.specs.declared.Entry.{Entry}
use Rattle.paper.specs.declared.Fault.{Fault}
use Rattle.paper.specs.declared.Site.{Site}
use Rattle.paper.specs.declared.Refusal.{Refusal}
use Rattle.forms.proofs.Tests.{both, never}
use Rattle.matching.specs.Belongs.{processor}
use Rattle.matching.proofs.Keys.{eq_z_true, eq_z_same}
use Rattle.matching.proofs.Last.{LastOf, last_of_lem, last_back}
use Rattle.demands.specs.Levels.{Last, On, Mark, AsExpected, Off, Decides, AtLevels}
use Rattle.demands.proofs.Tests.{Tells, not_told, untold}
use Rattle.demands.proofs.Stops.{site_is}

-- ---- the last that is such

module _ (es : List Entry) (test : Entry → Bool) (such : Entry → Type 0) (tells : (e : Entry) → Tells (test e) (such e)) where
  last_such : (k : ℕ) → LastOf test es (length es) k → Last es such k
  last_such k f =
      record {
        within = f.before;
        is = (tells (entry_at es k)).holds f.passes;
        none_later = λ j l m. untold (tells (entry_at es j)) (f.none_between j l m);
      }

  such_last : (k : ℕ) → Last es such k → LastOf test es (length es) k
  such_last k f =
      record {
        before = f.within;
        passes = (tells (entry_at es k)).told f.is;
        none_between = λ j l m. not_told (tells (entry_at es j)) (f.none_later j l m);
      }

-- ---- a mark

three_data : (v : Data) → is_three v ≡ true → (picl : ℤ) × (user : ℤ) × (trace : ℤ) × (v ≡ Three picl user trace)
unfolding is_three
three_data (Three picl user trace) e = (picl, user, trace, refl)
three_data Others e = never (cc)

on_tells : (p : ℕ) (e : Entry) → Tells (is_on p e) (On p e)
on_tells p e = record { holds = eqb-true _ _; told = eq-eqb _ _ }

mark_holds : (p : ℕ) (e : Entry) → is_mark p e ≡ true → Mark p e
unfolding counts
mark_holds p e h =
    let (on, count) = both (is_on p e) (counts e.body) h in
    let (ids, three) = both _ (is_three e.body.values) count in
    let (kind, event) = both (eq_z e.body.kind (negsuc 1)) (eq_z e.body.event (negsuc 903)) ids in
    let (picl, user, trace, is) = three_data e.body.values three in
    record {
      on = eqb-true _ _ on;
      kind = eq_z_true _ _ kind;
      event = eq_z_true _ _ event;
      picl = picl;
      user = user;
      trace = trace;
      three = is;
    }

mark_told : (p : ℕ) (e : Entry) → Mark p e → is_mark p e ≡ true
unfolding counts is_three
mark_told p e m = rw (m.on, m.kind, m.event, m.three, eq-eqb p p refl)

mark_tells : (p : ℕ) (e : Entry) → Tells (is_mark p e) (Mark p e)
mark_tells p e = record { holds = mark_holds p e; told = mark_told p e }

-- ---- a processor

module _ (a : Asked) (es : List Entry) (p : ℕ) where
  as_expected : (o : Option ℕ) → last_mark es p (length es) ≡ o → agrees a es o ≡ true → AsExpected a es p
  unfolding agrees expected
  as_expected None q e = never (cc)
  as_expected (Some k) q e =
      let last = last_such es (is_mark p) (Mark p) (mark_tells p) k (last_of_lem (is_mark p) es (length es) k q) in
      let m = last.is in
      let (two, trace) = both _ (eq_z m.trace a.trace) (rw m.three at e) in
      let (picl, user) = both (eq_z m.picl a.picl) (eq_z m.user a.user) two in
      record { place = k; last = last; picl = eq_z_true _ _ picl; user = eq_z_true _ _ user; trace = eq_z_true _ _ trace }

  expected_agrees : AsExpected a es p → agrees a es (last_mark es p (length es)) ≡ true
  unfolding agrees expected
  expected_agrees x =
      let m = x.last.is in
      rw (
        last_back (is_mark p) es (length es) x.place (such_last es (is_mark p) (Mark p) (mark_tells p) x.place x.last),
        m.three,
        x.picl,
        x.user,
        x.trace,
        eq_z_same a.picl,
        eq_z_same a.user,
        eq_z_same a.trace,
      )

  agrees_tells : Tells (agrees a es (last_mark es p (length es))) (AsExpected a es p)
  agrees_tells = record { holds = as_expected _ refl; told = expected_agrees }

  off_row : (line : ℕ) → off_at a es p ≡ Some line → Off a es p line
  unfolding off_at
  off_row line e = go (agrees a es (last_mark es p (length es))) refl (last_on es p (length es)) refl e
    where
      go : (t : Bool) → agrees a es (last_mark es p (length es)) ≡ t → (o : Option ℕ) → last_on es p (length es) ≡ o
          → cond t None (option_map (λ k. (entry_at es k).line) o) ≡ Some line → Off a es p line
      go true d o q e = never (cc)
      go false d None q e = never (cc)
      go false d (Some k) q e =
          record {
            place = k;
            last = last_such es (is_on p) (On p) (on_tells p) k (last_of_lem (is_on p) es (length es) k q);
            its_line = cc;
            differs = untold agrees_tells d;
          }

  row_off : (line : ℕ) → Off a es p line → off_at a es p ≡ Some line
  unfolding off_at
  row_off line off =
      rw (
        not_told agrees_tells off.differs,
        last_back (is_on p) es (length es) off.place (such_last es (is_on p) (On p) (on_tells p) off.place off.last),
      )
      (ap Some off.its_line)

  none_off : off_at a es p ≡ None → (n : ℕ) → ¬ Off a es p n
  none_off e n off = let f = row_off n off in never (cc)

  one_line : (m n : ℕ) → Off a es p m → Off a es p n → m ≡ n
  one_line m n f g = let e = sym (row_off m f) ∙ row_off n g in cc

-- ---- all processors

module _ (a : Asked) (es : List Entry) where
  -- none of the processors from p on and below q calls for it
  abbrev Quiet : ℕ → ℕ → Type 0
  Quiet p q = (r : ℕ) → p ≤ r → r < q → (n : ℕ) → ¬ Off a es r n

  quiet_first : (p q : ℕ) → off_at a es p ≡ None → Quiet (suc p) q → Quiet p q
  quiet_first p q e quiet r l m = go (dec_lt p r)
    where
      go : Dec (p < r) → (n : ℕ) → ¬ Off a es r n
      go (yes h) = quiet r (omega arith) m
      go (no h) = let z : r ≡ p = omega arith in rw z (none_off a es p e)

  abbrev Told : ℕ → ℕ → Result Unit Refusal → Type 0
  Told p n (Ok tt) = Quiet p (p + n)
  Told p n (Err refusal) = (refusal.fault ≡ Fault.OtherLevels) × (refusal.site.column ≡ 0) × (q : ℕ) × Off a es q refusal.site.line × Quiet p q

  told : (p n : ℕ) → Told p n (levels_from a es p n)
  unfolding levels_from
  told p zero = λ r l m. absurd (omega arith)
  told p (suc n) = go (off_at a es p) refl (levels_from a es (suc p) n) (told (suc p) n)
    where
      go : (o : Option ℕ) → off_at a es p ≡ o → (s : Result Unit Refusal) → Told (suc p) n s → Told p (suc n) (on_off o s)
      go (Some line) e s f = (refl, refl, p, off_row a es p line e, λ r l m. absurd (omega arith))
      go None e (Ok tt) f = λ r l m. quiet_first p (suc p + n) e f r l (omega arith)
      go None e (Err refusal) (same, whole, q, off, quiet) = (same, whole, q, off, quiet_first p q e quiet)

  -- 17 at a line, without a column
  abbrev Seventeen : Fault → Site → Type 0
  Seventeen fault s = (fault ≡ Fault.OtherLevels) × Decides a es s.line × (s.column ≡ 0)

  -- every listed record's processor is one of the 64 that are looked at
  module _ (low : (k : ℕ) → k < length es → processor es k < 64) where
    off_low : (p n : ℕ) → Off a es p n → p < 64
    off_low p n off = omega (arith, low off.place off.last.within, off.last.is)

    at_row : (fault : Fault) (s : Site) → levels_of a es ≡ refused_at fault s → Seventeen fault s
    unfolding levels_of
    at_row fault s e = go (eqb a.levels 1) refl e
      where
        go : (t : Bool) → eqb a.levels 1 ≡ t → cond t (levels_from a es 0 64) (Ok tt) ≡ refused_at fault s → Seventeen fault s
        go true t e =
            let (same, whole, p, off, quiet) = rw e at (told 0 64) in
            (same, record { on = eqb-true _ _ t; processor = p; off = off; smallest = λ q l. quiet q (omega arith) l }, whole)
        go false t e = never (cc)

    row_at : (line : ℕ) → Decides a es line → levels_of a es ≡ refused_at Fault.OtherLevels (whole_line line)
    unfolding levels_of
    row_at line d = rw (eq-eqb a.levels 1 d.on) (go (levels_from a es 0 64) (told 0 64))
      where
        go : (s : Result Unit Refusal) → Told 0 64 s → s ≡ refused_at Fault.OtherLevels (whole_line line)
        go (Ok tt) quiet = absurd (quiet d.processor (omega arith) (off_low d.processor line d.off) line d.off)
        go (Err refusal) (same, whole, q, off, quiet) =
            let above : ¬ (d.processor < q) = λ l. quiet d.processor (omega arith) l line d.off in
            let below : ¬ (q < d.processor) = λ l. d.smallest q l refusal.site.line off in
            let z : q ≡ d.processor = omega arith in
            let its_line : refusal.site.line ≡ line = one_line a es d.processor refusal.site.line line (rw z at off) d.off in
            rw (same, site_is refusal.site line 0 its_line whole)

    -- 17 at a line is where the row says so, and no other refusal comes of the levels
    pub levels_row : (fault : Fault) (s : Site) → (levels_of a es ≡ refused_at fault s) ↔ Seventeen fault s
    levels_row fault s = (at_row fault s, λ (same, d, whole). rw (same, site_is s s.line 0 refl whole) (row_at s.line d))

    end_row : levels_of a es ≡ Ok tt → AtLevels a es
    unfolding levels_of
    end_row e on p n off =
        let quiet : Quiet 0 64 = rw (rw (eq-eqb a.levels 1 on) at e) at (told 0 64) in
        quiet p (omega arith) (off_low p n off) n off

    row_end : AtLevels a es → levels_of a es ≡ Ok tt
    row_end h = go (levels_of a es) refl
      where
        go : (s : Result Unit Refusal) → levels_of a es ≡ s → s ≡ Ok tt
        go (Ok tt) e = refl
        go (Err refusal) e = let d = (at_row refusal.fault refusal.site e).1 in absurd (h d.on d.processor refusal.site.line d.off)

    -- and where no processor calls for 17, nothing does
    pub levels_none : (levels_of a es ≡ Ok tt) ↔ AtLevels a es
    levels_none = (end_row, row_end)
