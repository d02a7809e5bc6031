-- Reading the lines of a ++ b is reading a, and then b from the state reached.
use Rattle.std.specs.Prelude.{Result, Ok, Err}
use Prim.Native.Nat.{ℕ, suc, ◌+◌}
use mathlib.Core.Path.{◌≡◌, refl, ap, ◌∙◌}
use mathlib.Core.List.{List, ◌++◌}
use native.Mathlib.Omega.{arith}
use native.Mathlib.Nat.{add-zero}
use Rattle.paper.specs.Reading.{Lines, done, unended, ended, lines_of, State, Reading, with_entry, with_passed, with_listed, on_line, read_from, read_of, start, checked}
use Rattle.paper.specs.Line.{line_of}
use Rattle.paper.specs.declared.Choice.{Choice}
use Rattle.paper.specs.declared.Entry.{Entry}
use Rattle.paper.specs.declared.Line.{Line}
use Rattle.paper.specs.declared.Line.TheVariants.{Refused, Passed, Listed}
use Rattle.paper.specs.declared.Refusal.{Refusal}
use Rattle.reading.specs.Joined.{AllEnded, line_count, followed, resumed}
use Rattle.reading.proofs.Lines.{lines_followed}

-- an entry in front stays in front
entry_resumed : (e : Entry) (r : Reading) (more : State → Reading) (s : Result Unit Refusal) → r.stop ≡ s
    → with_entry e (resumed r more s) ≡ resumed (with_entry e r) more s
unfolding resumed
entry_resumed e r more (Ok tt) p = refl
entry_resumed e r more (Err refusal) p = refl

-- one line in front, read alike by both
line_resumed : (n : ℕ) (l : List ℕ) (st : State) (x : Line) (whole part : State → Reading) (more : State → Reading)
    → ((st₁ : State) → whole st₁ ≡ resumed (part st₁) more (part st₁).stop)
    → on_line n l st x whole ≡ resumed (on_line n l st x part) more (on_line n l st x part).stop
unfolding on_line resumed
line_resumed n l st (Refused fault spot) whole part more h = refl
line_resumed n l st Passed whole part more h = h (with_passed st)
line_resumed n l st (Listed r) whole part more h =
    ap (with_entry (record { line = n; body = r })) (h (with_listed st r))
    ∙ entry_resumed (record { line = n; body = r }) (part (with_listed st r)) more (part (with_listed st r)).stop refl

module _ (choice : Choice) (most : ℕ) (y : Lines) where
  pub lines_joined : (x : Lines) (n : ℕ) (st : State) → AllEnded x
      → read_from choice most (followed x y) n st
      ≡ resumed (read_from choice most x n st) (read_from choice most y (n + line_count x)) (read_from choice most x n st).stop
  unfolding read_from followed AllEnded line_count
  lines_joined done n st h = rw add-zero (unfold resumed in refl)
  lines_joined (unended l) n st h = absurd h
  lines_joined (ended l x) n st h =
      let k : n + 1 + line_count x ≡ n + suc (line_count x) = omega arith in
      line_resumed n l st (checked most st (line_of choice l)) (read_from choice most (followed x y) (n + 1)) (read_from choice most x (n + 1))
      (read_from choice most y (n + suc (line_count x))) (λ st₁. rw (← k) (lines_joined x (n + 1) st₁ h))

-- the bytes a, ended by LF, and then the bytes b
pub read_joined : (choice : Choice) (most : ℕ) (a b : List ℕ) → AllEnded (lines_of a)
    → read_of choice most (a ++ b)
    ≡ resumed (read_of choice most a) (read_from choice most (lines_of b) (1 + line_count (lines_of a))) (read_of choice most a).stop
unfolding read_of
read_joined choice most a b h = rw (lines_followed a b h) (lines_joined choice most (lines_of b) (lines_of a) 1 start h)
