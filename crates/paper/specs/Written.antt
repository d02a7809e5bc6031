-- Document 01: "The written trace is the trace's bytes with each listed record's timestamp replaced by its corrected time".
use Rattle.std.specs.Prelude.{ℕ, List, [], ◌∷◌, ◌++◌, ℤ}
use Rattle.paper.specs.Forms.{time_shown}
use Rattle.paper.specs.Line.{field, after, line_of}
use Rattle.paper.specs.Reading.{Lines, done, unended, ended}
use Rattle.paper.specs.declared.Choice.{Choice}
use Rattle.paper.specs.declared.Line.{Line}
use Rattle.paper.specs.declared.Line.TheVariants.{Refused, Passed, Listed}

-- a line with its third field, the timestamp, replaced
unfoldable pub with_stamp : List ℕ → List ℕ → List ℕ
with_stamp s l = field l ++ (32 ∷ field (after l) ++ (32 ∷ s ++ (32 ∷ after (after (after l)))))

-- a line written, and then the lines after it with the times that are left: each listed line takes one time
unfoldable pub write_line : Line → List ℕ → List ℤ → (List ℤ → List ℕ) → List ℕ
write_line (Refused fault spot) l times more = l ++ (10 ∷ more times)
write_line Passed l times more = l ++ (10 ∷ more times)
write_line (Listed r) l [] more = l ++ (10 ∷ more [])
write_line (Listed r) l (t ∷ times) more = with_stamp (time_shown t) l ++ (10 ∷ more times)

unfoldable pub written_from : Choice → Lines → List ℤ → List ℕ
written_from choice done times = []
written_from choice (unended l) times = l
written_from choice (ended l more) times = write_line (line_of choice l) l times (λ times₁. written_from choice more times₁)
