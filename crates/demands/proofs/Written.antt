-- The lines of a written trace: those of the trace, with the stamps of the listed ones replaced.
use Prim.Native.Nat.{ℕ}
use native.Mathlib.Omega.{arith}
use mathlib.Core.Path.{◌≡◌}
use mathlib.Core.List.{List, [], ◌∷◌}
use lib.ListN.{length}
use lib.IntN.{ℤ}
use Rattle.paper.specs.Forms.{time_shown}
use Rattle.paper.specs.Line.{line_of}
use Rattle.paper.specs.Reading.{Lines, ended, lines_of, State}
use Rattle.paper.specs.Written.{with_stamp, write_line, written_from}
use Rattle.paper.specs.declared.Choice.{Choice}
use Rattle.paper.specs.declared.Entry.{Entry}
use Rattle.paper.specs.declared.Line.TheVariants.{Passed, Listed}
use Rattle.paper.specs.declared.Record.{Record}
use Rattle.forms.specs.Free.{Free}
use Rattle.reading.proofs.Bytes.{Clean, line_ended}
use Rattle.reading.proofs.Along.{Reads, ends, passes, lists}
use Rattle.demands.specs.Demand2.{SameButStamps, end, passed_over, stamped}
use Rattle.demands.proofs.Stamps.{no_space, no_end, restamped, restamped_free}

-- ---- one line

module _ (choice : Choice) (l : List ℕ) (free : Free 10 l) (x : Lines) where
  pub written_passed : line_of choice l ≡ Passed → (times : List ℤ)
      → lines_of (written_from choice (ended l x) times) ≡ ended l (lines_of (written_from choice x times))
  unfolding written_from write_line
  written_passed p times = rw p (line_ended l (written_from choice x times) free)

  pub written_listed : (r : Record) → line_of choice l ≡ Listed r → (t : ℤ) (times : List ℤ)
      → lines_of (written_from choice (ended l x) (t ∷ times)) ≡ ended (with_stamp (time_shown t) l) (lines_of (written_from choice x times))
  unfolding written_from write_line
  written_listed r p t times =
      rw p
      (line_ended (with_stamp (time_shown t) l) (written_from choice x times)
      (restamped_free 10 (restamped choice l r p (time_shown t) (no_space t)) (no_end t) free))

-- ---- all lines

-- "Writing the corrected trace changes timestamps only"
pub same_but_stamps : {choice : Choice} {most : ℕ} {x : Lines} {n : ℕ} {st st₁ : State} {es : List Entry} → Reads choice most x n st es st₁
    → Clean x → (times : List ℤ) → length times ≡ length es → SameButStamps choice x times (lines_of (written_from choice x times))
unfolding written_from lines_of
same_but_stamps ends c [] e = end
same_but_stamps ends c (t ∷ times) e = absurd (omega arith)
same_but_stamps {choice} (passes {l = l} {x = x} p more) c times e =
    rw (written_passed choice l c.0 x p times) (passed_over p (same_but_stamps more c.1 times e))
same_but_stamps {choice} (lists p above room more) c [] e = absurd (omega arith)
same_but_stamps {choice} (lists {l = l} {x = x} {r = r} p above room more) c (t ∷ times) e =
    rw (written_listed choice l c.0 x r p t times)
    (stamped p (restamped choice l r p (time_shown t) (no_space t)) (same_but_stamps more c.1 times (omega arith)))
