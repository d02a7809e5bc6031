-- What is said, by what the arguments ask for.
use Rattle.std.specs.Prelude.{Result, None, Ok, Err}
use Prim.Native.Nat.{ℕ}
use mathlib.Core.Path.{◌≡◌, sym, ◌∙◌}
use mathlib.Core.Bool.{Bool, true}
use mathlib.Core.List.{List}
use Rattle.paper.specs.Columns.{nowhere}
use Rattle.paper.specs.declared.Answer.{Answer}
use Rattle.paper.specs.declared.Asked.{Asked}
use Rattle.paper.specs.declared.Fault.TheVariants as Fault
use Rattle.answer.specs.Answers.{refusal}
use Rattle.report.specs.declared.Said.{Said}
use Rattle.report.specs.declared.Said.TheVariants.{Answered, CannotRead, TooMany}
use Rattle.arguments.specs.Arguments.{plan_of, choice_alone}
use Rattle.files.specs.Told.{ByFiles}
use Rattle.filed.specs.Filed.{on_files}
use Rattle.shell.specs.Program.{on_plan, said_of}
use Rattle.arguments.specs.declared.Misuse.{Misuse}

module _ (count : ℕ) (first : List ℕ) {plan : Result (ℕ × Bool) Misuse} (planned : plan ≡ plan_of count first) where
  pub refuses : {answer : Answer} → plan ≡ Err Misuse.BadChoice → answer ≡ refusal Fault.BadChoice nowhere → ByFiles (said_of count first) (Answered answer)
  unfolding said_of on_plan
  refuses e a = record { first = None; second = None; rest = record { stored = true; says = rw (sym planned ∙ e, a) } }

  pub says_many : plan ≡ Err Misuse.TooMany → ByFiles (said_of count first) TooMany
  unfolding said_of on_plan
  says_many e = record { first = None; second = None; rest = record { stored = true; says = rw (sym planned ∙ e) } }

  pub says_unnamed : plan ≡ Err Misuse.Unnamed → ByFiles (said_of count first) CannotRead
  unfolding said_of on_plan
  says_unnamed e = record { first = None; second = None; rest = record { stored = true; says = rw (sym planned ∙ e) } }

  pub judges : {choice : ℕ} {wanted : Bool} {asked : Asked} {said : Said} → plan ≡ Ok (choice, wanted) → asked ≡ choice_alone choice
      → ByFiles (on_files asked wanted) said → ByFiles (said_of count first) said
  unfolding said_of on_plan
  judges e off by = record { first = by.first; second = by.second; rest = record { stored = by.rest.stored; says = by.rest.says ∙ rw (sym planned ∙ e, off) } }
