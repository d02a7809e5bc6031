-- Row 19: what the comparison of the statistics with the records comes to is what the row says of them.
use Rattle.std.specs.Prelude.{Option, Result, Some, None, Ok, Err}
use Prim.Native.Nat.{ℕ, zero, suc, ◌+◌, ◌≤◌, ◌<◌}
use native.Mathlib.Omega.{arith}
use native.Mathlib.Decide.{dec_lt}
use native.Mathlib.Numerals.{add-one}
use mathlib.Core.Path.{◌≡◌, refl, sym, ◌∙◌}
use mathlib.Core.Logic.{◌⊎◌, inl, inr, ◌↔◌}
use mathlib.Core.Bool.{Bool, true, false, cond, ◌&&◌, ◌||◌, not}
use mathlib.Core.List.{List, [], ◌∷◌}
use lib.ListN.{length, take, drop, get_or, drop_of_length-le}
use lib.Seq.{drop-cons}
use lib.IntN.{ℤ, pos, nat_abs, ◌-ℤ◌}
use lib.Dec.{leb, eqb}
use borrow.Author.Tests.{eqb-true, eq-eqb, leb-false, lt-leb}
use Rattle.paper.specs.Tests.{eq_z, minus, one_of}
use Rattle.paper.specs.Columns.{whole_line, refused_at}
use Rattle.paper.specs.Events.{is_statistics, standing_of}
use Rattle.paper.specs.Matching.{entry_at}
use Rattle.paper.specs.Reading.{lines_of}
use Rattle.paper.specs.Statistics.{is_of, marks_of, entries_of, exits_of, spent, lengths_if, count_differs, time_differs, volume_kind, on_volume, volume_differs, is_listed, differs, any_differs, is_compared, line_differs, on_differs, compared_from, statistics_of}
use Rattle.paper.specs.declared.Asked.{Asked}
use Rattle.paper.specs.declared.Entry.{Entry}
use Rattle.paper.specs.declared.Fault.{Fault}
use Rattle.paper.specs.declared.Site.{Site}
use Rattle.paper.specs.declared.Standing.{Standing}
use Rattle.paper.specs.declared.Refusal.{Refusal}
use Rattle.forms.proofs.Tests.{both, never}
use Rattle.demands.specs.Statistics.{VolumeOver, of_sends, of_receives, CountDiffers, TimeDiffers, VolumeDiffers, ToldDiffers, by_time, by_count, by_volume, PairDiffers, pairs_at, LineDiffers, FirstDifference, NoDifference}
use Rattle.demands.proofs.Tests.{Tells, untold, same_tells, both_tell, not_tells, in_words}
use Rattle.demands.proofs.Stops.{site_is}

-- ---- what is told of an event

-- the record type of a volume
over_kind : (event kind : ℤ) → volume_kind event ≡ Some kind → VolumeOver event kind
unfolding volume_kind one_of
over_kind event kind e = go (eq_z event (minus 21)) refl (eq_z event (minus 51)) refl (eq_z event (minus 52)) refl e
  where
    go : (t : Bool) → eq_z event (minus 21) ≡ t → (u : Bool) → eq_z event (minus 51) ≡ u → (v : Bool) → eq_z event (minus 52) ≡ v
        → cond t (Some (minus 3)) (cond (u || (v || false)) (Some (minus 4)) None) ≡ Some kind → VolumeOver event kind
    go true t u q v w e = let z : minus 3 ≡ kind = cc in rw (← z) (of_sends ((same_tells event (minus 21)).holds t))
    go false t true q v w e = let z : minus 4 ≡ kind = cc in rw (← z) (of_receives (inl ((same_tells event (minus 51)).holds q)))
    go false t false q true w e = let z : minus 4 ≡ kind = cc in rw (← z) (of_receives (inr ((same_tells event (minus 52)).holds w)))
    go false t false q false w e = never (cc)

kind_over : {event kind : ℤ} → VolumeOver event kind → volume_kind event ≡ Some kind
unfolding volume_kind one_of
kind_over (of_sends e) = rw e
kind_over (of_receives (inl e)) = rw e
kind_over (of_receives (inr e)) = rw e

module _ (es : List Entry) (p : ℕ) (event told : ℤ) where
  count_tells : Tells (count_differs es p event told) (CountDiffers es p event told)
  unfolding count_differs
  count_tells =
      in_words (λ (m, o). record { measured = m; other = o }) (λ d. (d.measured, d.other))
      (both_tell (not_tells (same_tells told (minus 1))) (not_tells (same_tells told (pos (entries_of es p event + marks_of es p event)))))

  many_tells : Tells (eqb (entries_of es p event) (exits_of es p event)) (entries_of es p event ≡ exits_of es p event)
  many_tells = record { holds = eqb-true _ _; told = eq-eqb _ _ }

  beyond_tells : (far near : ℕ) → Tells (not (leb far near)) (near < far)
  beyond_tells far near = record { holds = λ e. go (leb far near) refl e; told = λ l. rw (lt-leb far near l) }
    where
      go : (t : Bool) → leb far near ≡ t → not t ≡ true → near < far
      go true t e = never (cc)
      go false t e = leb-false far near t

  time_tells : Tells (time_differs es p event told) (TimeDiffers es p event told)
  unfolding time_differs
  time_tells =
      in_words (λ ((m, n), b). record { measured = m; equally_many = n; beyond = b }) (λ d. ((d.measured, d.equally_many), d.beyond))
      (both_tell (both_tell (not_tells (same_tells told (minus 1000000))) many_tells)
      (beyond_tells (nat_abs (told -ℤ spent es p event)) (entries_of es p event)))

  volume_tells : Tells (volume_differs es p event told) (VolumeDiffers es p event told)
  unfolding volume_differs
  volume_tells = record { holds = λ e. let (m, v) = both _ _ e in go ((not_tells (same_tells told (minus 1))).holds m) _ refl v; told = of }
    where
      go : ¬ (told ≡ minus 1) → (o : Option ℤ) → volume_kind event ≡ o → on_volume es p event told o ≡ true → VolumeDiffers es p event told
      go m None q e = never (cc)
      go m (Some kind) q e =
          record {
            measured = m;
            kind = kind;
            over = over_kind event kind q;
            other = (not_tells (same_tells told (pos (lengths_if (is_of kind event p) es)))).holds e;
          }

      of : VolumeDiffers es p event told → (not (eq_z told (minus 1)) && on_volume es p event told (volume_kind event)) ≡ true
      of d =
          rw (kind_over d.over)
          ((both_tell (not_tells (same_tells told (minus 1))) (not_tells (same_tells told (pos (lengths_if (is_of d.kind event p) es))))).told
          (d.measured, d.other))

  -- by the record type, which is one of three
  abbrev by_kind : ℤ → Bool
  by_kind kind =
      cond (eq_z kind (minus 101)) (time_differs es p event told) (cond (eq_z kind (minus 102)) (count_differs es p event told) (volume_differs es p event told))

  kind_holds : (kind : ℤ) → is_statistics kind ≡ true → by_kind kind ≡ true → ToldDiffers es p event told kind
  unfolding is_statistics one_of
  kind_holds kind s e = go (eq_z kind (minus 101)) refl (eq_z kind (minus 102)) refl (eq_z kind (minus 103)) refl s e
    where
      go : (t : Bool) → eq_z kind (minus 101) ≡ t → (u : Bool) → eq_z kind (minus 102) ≡ u → (v : Bool) → eq_z kind (minus 103) ≡ v
          → (t || (u || (v || false))) ≡ true
          → cond t (time_differs es p event told) (cond u (count_differs es p event told) (volume_differs es p event told)) ≡ true
          → ToldDiffers es p event told kind
      go true t u q v w s e = rw ((same_tells kind (minus 101)).holds t) (by_time (time_tells.holds e))
      go false t true q v w s e = rw ((same_tells kind (minus 102)).holds q) (by_count (count_tells.holds e))
      go false t false q true w s e = rw ((same_tells kind (minus 103)).holds w) (by_volume (volume_tells.holds e))
      go false t false q false w s e = never (cc)

  kind_told : {kind : ℤ} → ToldDiffers es p event told kind → (is_statistics kind ≡ true) × (by_kind kind ≡ true)
  unfolding is_statistics one_of
  kind_told (by_time d) = (refl, time_tells.told d)
  kind_told (by_count d) = (refl, count_tells.told d)
  kind_told (by_volume d) = (refl, volume_tells.told d)

-- ---- a pair

listed_tells : (s : Standing) → Tells (is_listed s) ((s ≡ Standing.Listed) ⊎ (s ≡ Standing.Message))
unfolding is_listed
listed_tells Standing.Listed = record { holds = λ e. inl refl; told = λ h. refl }
listed_tells Standing.Message = record { holds = λ e. inr refl; told = λ h. refl }
listed_tells Standing.NotHandled = record { holds = λ e. never (cc); told = λ h. not_so h }
  where
    not_so : (Standing.NotHandled ≡ Standing.Listed) ⊎ (Standing.NotHandled ≡ Standing.Message) → false ≡ true
    not_so (inl e) = never (cc)
    not_so (inr e) = never (cc)
listed_tells Standing.Unlisted = record { holds = λ e. never (cc); told = λ h. not_so h }
  where
    not_so : (Standing.Unlisted ≡ Standing.Listed) ⊎ (Standing.Unlisted ≡ Standing.Message) → false ≡ true
    not_so (inl e) = never (cc)
    not_so (inr e) = never (cc)

module _ (kind : ℤ) (es : List Entry) (p : ℕ) where
  pair_holds : (pair : ℤ × ℤ) → is_statistics kind ≡ true → differs kind es p pair.0 pair.1 ≡ true → PairDiffers kind es p pair
  unfolding differs
  pair_holds pair s e =
      let (l, d) = both (is_listed (standing_of pair.0)) (by_kind es p pair.0 pair.1 kind) e in
      record { listed = (listed_tells _).holds l; differs = kind_holds es p pair.0 pair.1 kind s d }

  pair_told : (pair : ℤ × ℤ) → PairDiffers kind es p pair → differs kind es p pair.0 pair.1 ≡ true
  unfolding differs
  pair_told pair d = rw ((listed_tells _).told d.listed) (kind_told es p pair.0 pair.1 d.differs).1

  -- one of some pairs
  abbrev SomeDiffers : List (ℤ × ℤ) → Type 0
  SomeDiffers ps = (k : ℕ) × (k < length ps) × PairDiffers kind es p (get_or ps k (pos 0, pos 0))

  any_holds : is_statistics kind ≡ true → (ps : List (ℤ × ℤ)) → any_differs kind es p ps ≡ true → SomeDiffers ps
  unfolding any_differs
  any_holds s [] e = never (cc)
  any_holds s (q ∷ ps) e = go (differs kind es p q.0 q.1) refl (any_holds s ps) e
    where
      go : (t : Bool) → differs kind es p q.0 q.1 ≡ t → (any_differs kind es p ps ≡ true → SomeDiffers ps)
          → (t || any_differs kind es p ps) ≡ true → SomeDiffers (q ∷ ps)
      go true t later e = (0, omega arith, pair_holds q s t)
      go false t later e = let (k, l, d) = later e in (suc k, omega arith, d)

  any_told : (ps : List (ℤ × ℤ)) (k : ℕ) → k < length ps → PairDiffers kind es p (get_or ps k (pos 0, pos 0)) → any_differs kind es p ps ≡ true
  unfolding any_differs
  any_told [] k l d = absurd (omega arith)
  any_told (q ∷ ps) zero l d = rw (pair_told q d)
  any_told (q ∷ ps) (suc k) l d = rw (any_told ps k (omega arith) d) (go (differs kind es p q.0 q.1))
    where
      go : (t : Bool) → (t || true) ≡ true
      go true = refl
      go false = refl

-- ---- a line

module _ (trace : List ℕ) (es : List Entry) where
  abbrev differs_at : ℕ → Bool
  differs_at k = line_differs (lines_of trace) (take k es) (entry_at es k)

  line_holds : (k : ℕ) → differs_at k ≡ true → LineDiffers trace es k
  unfolding line_differs is_compared
  line_holds k e =
      let r = (entry_at es k).body in
      let (compared, any) = both _ (any_differs r.kind (take k es) r.processor (pairs_at trace es k)) e in
      let (statistics, event) = both (is_statistics r.kind) (eq_z r.event (minus 1)) compared in
      let (pair, l, d) = any_holds r.kind (take k es) r.processor statistics (pairs_at trace es k) any in
      record { event = (same_tells r.event (minus 1)).holds event; pair = pair; within = l; differs = d }

  line_told : (k : ℕ) → LineDiffers trace es k → differs_at k ≡ true
  unfolding line_differs is_compared
  line_told k d =
      let r = (entry_at es k).body in
      let ps = pairs_at trace es k in
      rw (
        (kind_told (take k es) r.processor (get_or ps d.pair (pos 0, pos 0)).0 (get_or ps d.pair (pos 0, pos 0)).1 d.differs.differs).0,
        (same_tells r.event (minus 1)).told d.event,
      )
      (any_told r.kind (take k es) r.processor ps d.pair d.within d.differs)

  line_tells : (k : ℕ) → Tells (differs_at k) (LineDiffers trace es k)
  line_tells k = record { holds = line_holds k; told = line_told k }

  -- ---- all lines

  compared_step : (i : ℕ) → i < length es → compared_from (lines_of trace) es i (drop i es)
      ≡ on_differs (differs_at i) (entry_at es i).line (compared_from (lines_of trace) es (i + 1) (drop (i + 1) es))
  unfolding compared_from entry_at
  compared_step i h = rw (drop-cons es i (entry_at [] 0), add-one i)

  compared_end : (i : ℕ) → length es ≤ i → compared_from (lines_of trace) es i (drop i es) ≡ Ok tt
  unfolding compared_from
  compared_end i h = rw (drop_of_length-le es h)

  -- none of the records from place i on and before place n has a difference
  abbrev Quiet : ℕ → ℕ → Type 0
  Quiet i n = (k : ℕ) → i ≤ k → k < n → ¬ LineDiffers trace es k

  quiet_first : (i n : ℕ) → differs_at i ≡ false → Quiet (suc i) n → Quiet i n
  quiet_first i n e quiet k l m = go (dec_lt i k)
    where
      go : Dec (i < k) → ¬ LineDiffers trace es k
      go (yes h) = quiet k (omega arith) m
      go (no h) = let z : k ≡ i = omega arith in rw z (untold (line_tells i) e)

  abbrev Told : ℕ → Result Unit Refusal → Type 0
  Told i (Ok tt) = Quiet i (length es)
  Told i (Err refusal) =
      (refusal.fault ≡ Fault.OtherStatistics) × (refusal.site.column ≡ 0)
      × (k : ℕ) × (k < length es) × ((entry_at es k).line ≡ refusal.site.line) × LineDiffers trace es k × Quiet i k

  told : (n i : ℕ) → i + n ≡ length es → Told i (compared_from (lines_of trace) es i (drop i es))
  told zero i e = rw (compared_end i (omega arith)) (λ k l m. absurd (omega arith))
  told (suc n) i e = rw (compared_step i (omega arith)) (go (differs_at i) refl _ (told n (i + 1) (omega arith)))
    where
      go : (t : Bool) → differs_at i ≡ t → (s : Result Unit Refusal) → Told (i + 1) s → Told i (on_differs t (entry_at es i).line s)
      go true t s f = (refl, refl, i, omega arith, refl, line_holds i t, λ k l m. absurd (omega arith))
      go false t (Ok tt) f = λ k l m. quiet_first i (length es) t (λ j a b. f j (omega arith) b) k l m
      go false t (Err refusal) (same, whole, k, inside, line, d, quiet) =
          (same, whole, k, inside, line, d, λ j a b. quiet_first i k t (λ h x y. quiet h (omega arith) y) j a b)

module _ (a : Asked) (trace : List ℕ) (es : List Entry) where
  -- 19 at a line, without a column
  abbrev Nineteen : Fault → Site → Type 0
  Nineteen fault s = (fault ≡ Fault.OtherStatistics) × FirstDifference a trace es s.line × (s.column ≡ 0)

  at_row : (fault : Fault) (s : Site) → statistics_of a trace es ≡ refused_at fault s → Nineteen fault s
  unfolding statistics_of
  at_row fault s e = go (eqb a.statistics 1) refl e
    where
      go : (t : Bool) → eqb a.statistics 1 ≡ t → cond t (compared_from (lines_of trace) es 0 es) (Ok tt) ≡ refused_at fault s → Nineteen fault s
      go true t e =
          let (same, whole, k, inside, line, d, quiet) = rw e at (told trace es (length es) 0 (omega arith)) in (
            same,
            record { on = eqb-true _ _ t; place = k; within = inside; its_line = line; is = d; first = λ j l. quiet j (omega arith) l },
            whole,
          )
      go false t e = never (cc)

  row_at : (line : ℕ) → FirstDifference a trace es line → statistics_of a trace es ≡ refused_at Fault.OtherStatistics (whole_line line)
  unfolding statistics_of
  row_at line d = rw (eq-eqb a.statistics 1 d.on) (go (compared_from (lines_of trace) es 0 es) (told trace es (length es) 0 (omega arith)))
    where
      go : (s : Result Unit Refusal) → Told trace es 0 s → s ≡ refused_at Fault.OtherStatistics (whole_line line)
      go (Ok tt) quiet = absurd (quiet d.place (omega arith) d.within d.is)
      go (Err refusal) (same, whole, k, inside, there, f, quiet) =
          let above : ¬ (d.place < k) = λ l. quiet d.place (omega arith) l d.is in
          let below : ¬ (k < d.place) = λ l. d.first k l f in
          let z : k ≡ d.place = omega arith in
          let its_line : refusal.site.line ≡ line = sym (rw z at there) ∙ d.its_line in
          rw (same, site_is refusal.site line 0 its_line whole)

  -- 19 at a line is where the row says so, and no other refusal comes of the statistics
  pub statistics_row : (fault : Fault) (s : Site) → (statistics_of a trace es ≡ refused_at fault s) ↔ Nineteen fault s
  statistics_row fault s = (at_row fault s, λ (same, d, whole). rw (same, site_is s s.line 0 refl whole) (row_at s.line d))

  end_row : statistics_of a trace es ≡ Ok tt → NoDifference a trace es
  unfolding statistics_of
  end_row e on k l =
      let quiet : Quiet trace es 0 (length es) = rw (rw (eq-eqb a.statistics 1 on) at e) at (told trace es (length es) 0 (omega arith)) in
      quiet k (omega arith) l

  row_end : NoDifference a trace es → statistics_of a trace es ≡ Ok tt
  row_end h = go (statistics_of a trace es) refl
    where
      go : (s : Result Unit Refusal) → statistics_of a trace es ≡ s → s ≡ Ok tt
      go (Ok tt) e = refl
      go (Err refusal) e = let d = (at_row refusal.fault refusal.site e).1 in absurd (h d.on d.place d.within d.is)

  -- and where no statistics line differs, nothing calls for 19
  pub statistics_none : (statistics_of a trace es ≡ Ok tt) ↔ NoDifference a trace es
  statistics_none = (end_row, row_end)
