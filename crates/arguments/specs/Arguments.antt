-- Document 01, "What the base covers": "its arguments are the choice, the trace's file, the table's file and, only if the written trace
-- is wanted, a file for it". A count of arguments has the program's own name in it.
use Rattle.std.specs.Prelude.{ℕ, cond, List, [], ◌∷◌, pos, eqb, ltb, Option, Some, None, Result, Ok, Err, Bool}
use Rattle.paper.specs.declared.Asked.{Asked}
use Rattle.arguments.specs.declared.Misuse.{Misuse}

-- the choice that the first argument names, as bytes: 49 is the digit 1, 50 the digit 2; none for every other word, the empty one too
unfoldable pub choice_named : List ℕ → Option ℕ
choice_named [] = None
choice_named (byte ∷ []) = cond (eqb byte 49) (Some 1) (cond (eqb byte 50) (Some 2) None)
choice_named (byte ∷ next ∷ rest) = None

-- "A first argument other than 1 or 2, or none, is refusal 1; after that a file that .. isn't named, gives the single line
-- "cannot read"": and a fifth argument, which nothing asks for, is told before that. The fourth is the wish for the written trace.
unfoldable pub on_choice : (count : ℕ) → Option ℕ → Result (ℕ × Bool) Misuse
on_choice count None = Err Misuse.BadChoice
on_choice count (Some choice) = cond (ltb 5 count) (Err Misuse.TooMany) (cond (ltb count 4) (Err Misuse.Unnamed) (Ok (choice, ltb 4 count)))

unfoldable pub plan_of : (count : ℕ) → (first : List ℕ) → Result (ℕ × Bool) Misuse
plan_of count first = on_choice count (choice_named first)

-- the programs without named arguments ask for no levels, "0 for off, as for document 01's samples", and compare no statistics, "0 for off"
unfoldable pub choice_and_share : ℕ → ℕ → Asked
choice_and_share choice share = record { choice = choice; levels = 0; picl = pos 0; user = pos 0; trace = pos 0; statistics = 0; share = share }

-- where no share is named either, "Share 0 is today's rule"
unfoldable pub choice_alone : ℕ → Asked
choice_alone choice = choice_and_share choice 0
