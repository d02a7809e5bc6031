-- Reading the lines of two traces as those of one, where no processor has a listed record in both: neither trace changes a last time that
-- the other one's records are compared with, so that every line comes to what it came to before.
use Prim.Native.Nat.{ℕ, zero, suc, ◌+◌, ◌≤◌, ◌<◌}
use native.Mathlib.Omega.{arith}
use mathlib.Core.Path.{◌≡◌, refl, sym, ◌∙◌}
use mathlib.Core.List.{List, [], ◌∷◌}
use lib.ListN.{length, get_or, set, length-set}
use lib.Seq.{get_or-set_other}
use lib.IntN.{ℤ, pos}
use lib.Signed.{◌≤ℤ◌}
use Rattle.paper.specs.Line.{line_of}
use Rattle.paper.specs.Reading.{Lines, ended, State, start, with_passed, with_listed}
use Rattle.paper.specs.declared.Choice.{Choice}
use Rattle.paper.specs.declared.Entry.{Entry}
use Rattle.paper.specs.declared.Line.TheVariants.{Passed, Listed}
use Rattle.paper.specs.declared.Record.{Record}
use Rattle.reading.specs.Mixed.{Mixed, no_more, from_first, from_second}
use Rattle.reading.proofs.Along.{Reads, ends, passes, lists}
use Rattle.reading.proofs.Counted.{listed_count}

-- ---- the last times of some processors

-- what is put at one place of two lists shows alike in both
set_alike : (a b : List ℤ) (p q : ℕ) (t d : ℤ) → length a ≡ length b → get_or a q d ≡ get_or b q d → get_or (set a p t) q d ≡ get_or (set b p t) q d
set_alike [] [] p q t d l e = e
set_alike [] (y ∷ b) p q t d l e = absurd (omega arith)
set_alike (x ∷ a) [] p q t d l e = absurd (omega arith)
set_alike (x ∷ a) (y ∷ b) zero zero t d l e = refl
set_alike (x ∷ a) (y ∷ b) zero (suc q) t d l e = e
set_alike (x ∷ a) (y ∷ b) (suc p) zero t d l e = e
set_alike (x ∷ a) (y ∷ b) (suc p) (suc q) t d l e = set_alike a b p q t d (omega arith) e

-- two tables have the same last time of each processor that is such
pub record SameLast (such : ℕ → Type 0) (a b : List ℤ) : Type 0 where
  pub size : length a ≡ length b
  pub same : (p : ℕ) → such p → get_or a p (pos 0) ≡ get_or b p (pos 0)

module _ {such : ℕ → Type 0} {a b : List ℤ} (s : SameLast such a b) (p : ℕ) (t : ℤ) where
  -- a record of both
  same_set : SameLast such (set a p t) (set b p t)
  same_set = record { size = simp length-set s.size; same = λ q h. set_alike a b p q t (pos 0) s.size (s.same q h) }

  -- one of another processor, of the second alone
  other_set : ¬ such p → SameLast such a (set b p t)
  other_set not =
      record {
        size = rw length-set s.size;
        same = λ q h. s.same q h ∙ sym (get_or-set_other b p q t (pos 0) (λ e. not (rw e at h)));
      }

  same_above : such p → get_or a p (pos 0) ≤ℤ t → get_or b p (pos 0) ≤ℤ t
  same_above h above = rw (s.same p h) at above

-- ---- the state of the one reading, and those of the two that it is made of

pub record Together (mine yours : ℕ → Type 0) (st su sz : State) : Type 0 where
  pub first : SameLast mine st.last sz.last
  pub second : SameLast yours su.last sz.last
  pub listed : sz.listed ≡ st.listed + su.listed
  pub passed : sz.passed ≡ st.passed + su.passed

turned : {mine yours : ℕ → Type 0} {st su sz : State} → Together mine yours st su sz → Together yours mine su st sz
turned t = record { first = t.second; second = t.first; listed = omega (arith, t.listed); passed = omega (arith, t.passed) }

module _ {mine yours : ℕ → Type 0} {st su sz : State} (t : Together mine yours st su sz) where
  passed_together : Together mine yours (with_passed st) su (with_passed sz)
  unfolding with_passed
  passed_together = record { first = t.first; second = t.second; listed = t.listed; passed = omega (arith, t.passed) }

  listed_together : (r : Record) → ¬ yours r.processor → Together mine yours (with_listed st r) su (with_listed sz r)
  unfolding with_listed
  listed_together r other =
      record {
        first = same_set t.first r.processor r.time;
        second = other_set t.second r.processor r.time other;
        listed = omega (arith, t.listed);
        passed = t.passed;
      }

start_together : {mine yours : ℕ → Type 0} → Together mine yours start start start
unfolding start
start_together =
    record { first = record { size = refl; same = λ p h. refl }; second = record { size = refl; same = λ p h. refl }; listed = refl; passed = refl }

-- ---- the lines, one by one

-- each record is on such a processor
abbrev pub AllOn : (ℕ → Type 0) → List Entry → Type 0
AllOn such [] = Unit
AllOn such (e ∷ es) = such e.body.processor × AllOn such es

module _ (mine yours : ℕ → Type 0) (choice : Choice) (limit : ℕ) where
  -- what the lines z are read as from line k and a state on, where the two readings end in these states
  pub record Mixture (z : Lines) (k : ℕ) (sz st₁ su₁ : State) : Type 0 where
    pub entries : List Entry
    pub state : State
    pub reads : Reads choice limit z k sz entries state
    pub together : Together mine yours st₁ su₁ state

  module _ {l : List ℕ} {z : Lines} {k : ℕ} {sz st₁ su₁ : State} where
    passed_front : line_of choice l ≡ Passed → Mixture z (k + 1) (with_passed sz) st₁ su₁ → Mixture (ended l z) k sz st₁ su₁
    passed_front p m = record { entries = m.entries; state = m.state; reads = passes p m.reads; together = m.together }

    listed_front : (r : Record) → line_of choice l ≡ Listed r → get_or sz.last r.processor (pos 0) ≤ℤ r.time → sz.listed < limit
        → Mixture z (k + 1) (with_listed sz r) st₁ su₁ → Mixture (ended l z) k sz st₁ su₁
    listed_front r p above room m =
        record {
          entries = record { line = k; body = r } ∷ m.entries;
          state = m.state;
          reads = lists p above room m.reads;
          together = m.together;
        }

  module _ (apart : (p : ℕ) → mine p → ¬ yours p) where
    pub mixed_reads : {x y z : Lines} → Mixed x y z → {most most' : ℕ} {n n' : ℕ} {st su st₁ su₁ : State} {es fs : List Entry}
        → Reads choice most x n st es st₁ → Reads choice most' y n' su fs su₁ → AllOn mine es → AllOn yours fs
        → (k : ℕ) (sz : State) → Together mine yours st su sz → sz.listed + length es + length fs ≤ limit → Mixture z k sz st₁ su₁
    unfolding with_listed with_passed
    mixed_reads no_more ends ends on on' k sz t h = record { entries = []; state = sz; reads = ends; together = t }
    mixed_reads (from_first m) (passes p more) s on on' k sz t h =
        passed_front p (mixed_reads m more s on on' (k + 1) (with_passed sz) (passed_together t) h)
    mixed_reads (from_first m) (lists {r = r} p above room more) s on on' k sz t h =
        listed_front r p (same_above t.first r.processor r.time on.0 above) (omega arith)
        (mixed_reads m more s on.1 on' (k + 1) (with_listed sz r) (listed_together t r (apart _ on.0)) (omega arith))
    mixed_reads (from_second m) s (passes p more) on on' k sz t h =
        passed_front p (mixed_reads m s more on on' (k + 1) (with_passed sz) (turned (passed_together (turned t))) h)
    mixed_reads (from_second m) s (lists {r = r} p above room more) on on' k sz t h =
        listed_front r p (same_above t.second r.processor r.time on'.0 above) (omega arith)
        (mixed_reads m s more on on'.1 (k + 1) (with_listed sz r) (turned (listed_together (turned t) r (λ h. apart _ h on'.0))) (omega arith))

    -- ---- two traces, from their first lines on

    module _ {x y z : Lines} (m : Mixed x y z) {most most' : ℕ} {st₁ su₁ : State} {es fs : List Entry} (r : Reads choice most x 1 start es st₁)
        (s : Reads choice most' y 1 start fs su₁) where
      pub mixed_traces : AllOn mine es → AllOn yours fs → length es + length fs ≤ limit → Mixture z 1 start st₁ su₁
      unfolding start
      mixed_traces on on' h = mixed_reads m r s on on' 1 start start_together (omega arith)

      pub mixed_size : (w : Mixture z 1 start st₁ su₁) → length w.entries ≡ length es + length fs
      unfolding start
      mixed_size w = omega (arith, listed_count r, listed_count s, listed_count w.reads, w.together.listed)
