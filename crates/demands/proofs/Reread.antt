-- A written trace read again: the same entries but for the times, which are those written; and written again it is itself.
use Prim.Native.Nat.{ℕ, zero, suc, ◌<◌}
use native.Mathlib.Omega.{arith}
use mathlib.Core.Path.{◌≡◌, refl, ap}
use mathlib.Core.List.{List, [], ◌∷◌, ◌++◌}
use lib.ListN.{length}
use lib.IntN.{ℤ}
use Rattle.paper.specs.Clock.{time_at}
use Rattle.paper.specs.Forms.{time_shown}
use Rattle.paper.specs.Line.{line_of}
use Rattle.paper.specs.Matching.{entry_at}
use Rattle.paper.specs.Reading.{Lines, lines_of, State, with_passed, with_listed}
use Rattle.paper.specs.Written.{with_stamp, write_line, written_from}
use Rattle.paper.specs.declared.Choice.{Choice}
use Rattle.paper.specs.declared.Entry.{Entry}
use Rattle.paper.specs.declared.Line.TheVariants.{Listed}
use Rattle.paper.specs.declared.Record.{Record}
use Rattle.forms.proofs.Back.{there_and_back}
use Rattle.matching.proofs.Times.{untimed, Alike}
use Rattle.reading.specs.Retimed.{record_at}
use Rattle.reading.specs.Tidy.{InRange}
use Rattle.reading.proofs.Bytes.{Clean}
use Rattle.reading.proofs.Stamp.{listed_stamped}
use Rattle.reading.proofs.Along.{Reads, ends, passes, lists}
use Rattle.demands.specs.Steps.{original}
use Rattle.demands.proofs.Stamps.{no_space, stamp_twice}
use Rattle.demands.proofs.Written.{written_passed, written_listed}
use Rattle.demands.proofs.Rising.{Rises}

-- ---- entries with other times

abbrev pub with_times : List Entry → List ℤ → List Entry
with_times [] ts = []
with_times (e ∷ es) [] = e ∷ es
with_times (e ∷ es) (t ∷ ts) = record { line = e.line; body = record_at t e.body } ∷ with_times es ts

pub times_alike : (es : List Entry) (ts : List ℤ) → Alike (with_times es ts) es
times_alike [] ts = refl
times_alike (e ∷ es) [] = refl
times_alike (e ∷ es) (t ∷ ts) = ap (λ (l : List Entry). untimed e ∷ l) (times_alike es ts)

pub times_there : (es : List Entry) (ts : List ℤ) → length ts ≡ length es → (k : ℕ) → k < length es → original (with_times es ts) k ≡ time_at ts k
unfolding entry_at
times_there [] ts e k l = absurd (omega arith)
times_there (f ∷ es) [] e k l = absurd (omega arith)
times_there (f ∷ es) (t ∷ ts) e zero l = refl
times_there (f ∷ es) (t ∷ ts) e (suc k) l = times_there es ts (omega arith) k (omega arith)

-- ---- a listed line with its new stamp

restamped_line : (choice : Choice) (l : List ℕ) (r : Record) → line_of choice l ≡ Listed r → (t : ℤ) → InRange t
    → line_of choice (with_stamp (time_shown t) l) ≡ Listed (record_at t r)
restamped_line choice l r p t range = listed_stamped l (time_shown t) t (there_and_back t range) (no_space t) choice r p

module _ {choice : Choice} {most : ℕ} where
  -- read again, from a state with the same counts
  pub reread : {x : Lines} {n : ℕ} {st st₁ : State} {es : List Entry} → Reads choice most x n st es st₁ → Clean x
      → (ts : List ℤ) (st₂ : State) → st₂.listed ≡ st.listed → st₂.passed ≡ st.passed → Rises st₂.last es ts
      → (st₃ : State) × Reads choice most (lines_of (written_from choice x ts)) n st₂ (with_times es ts) st₃ × (st₃.passed ≡ st₁.passed)
  unfolding written_from lines_of with_passed with_listed
  reread ends c [] st₂ a b h = (st₂, ends, b)
  reread ends c (t ∷ ts) st₂ a b h = absurd h
  reread (passes {l = l} {x = x} p more) c ts st₂ a b h =
      let (st₃, again, e) = reread more c.1 ts (with_passed st₂) a (omega arith) h in
      (st₃, rw (written_passed choice l c.0 x p ts) (passes p again), e)
  reread (lists p above room more) c [] st₂ a b h = absurd h
  reread (lists {l = l} {x = x} {r = r} p above room more) c (t ∷ ts) st₂ a b h =
      let room₂ : st₂.listed < most = omega arith in
      let (st₃, again, e) = reread more c.1 ts (with_listed st₂ (record_at t r)) (omega arith) b h.2 in
      (st₃, rw (written_listed choice l c.0 x r p t ts) (lists (restamped_line choice l r p t h.0) h.1 room₂ again), e)

  -- written again
  pub rewritten : {x : Lines} {n : ℕ} {st st₁ : State} {es : List Entry} → Reads choice most x n st es st₁ → Clean x
      → (last ts : List ℤ) → Rises last es ts → written_from choice (lines_of (written_from choice x ts)) ts ≡ written_from choice x ts
  unfolding written_from write_line lines_of
  rewritten ends c last ts h = refl
  rewritten (passes {l = l} {x = x} p more) c last ts h =
      rw (written_passed choice l c.0 x p ts) (rw p (ap (λ (s : List ℕ). l ++ (10 ∷ s)) (rewritten more c.1 last ts h)))
  rewritten (lists p above room more) c last [] h = absurd h
  rewritten (lists {l = l} {x = x} {r = r} p above room more) c last (t ∷ ts) h =
      rw (written_listed choice l c.0 x r p t ts)
      (rw (restamped_line choice l r p t h.0, p)
      (rw (stamp_twice (time_shown t) l (no_space t)) (ap (λ (s : List ℕ). with_stamp (time_shown t) l ++ (10 ∷ s)) (rewritten more c.1 _ ts h.2))))
