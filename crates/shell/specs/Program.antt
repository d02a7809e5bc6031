-- What the program `cantuvesh` says, by its arguments and by what the system tells of its files.
use Rattle.std.specs.Prelude.{ℕ, Bool, List, Option, Result, Ok, Err}
use Rattle.paper.specs.Columns.{nowhere}
use Rattle.paper.specs.declared.Fault.TheVariants as Fault
use Rattle.answer.specs.Answers.{refusal}
use Rattle.report.specs.declared.Said.{Said}
use Rattle.arguments.specs.Arguments.{plan_of, choice_alone}
use Rattle.filed.specs.Filed.{on_files}
use Rattle.arguments.specs.declared.Misuse.{Misuse}

unfoldable pub on_plan : Result (ℕ × Bool) Misuse → (trace table : Option (List ℕ)) (stored : Bool) → Said
on_plan (Err Misuse.BadChoice) trace table stored = Said.Answered (refusal Fault.BadChoice nowhere)
on_plan (Err Misuse.TooMany) trace table stored = Said.TooMany
on_plan (Err Misuse.Unnamed) trace table stored = Said.CannotRead
on_plan (Ok (choice, wanted)) trace table stored = on_files (choice_alone choice) wanted trace table stored

unfoldable pub said_of : (count : ℕ) (first : List ℕ) (trace table : Option (List ℕ)) (stored : Bool) → Said
said_of count first trace table stored = on_plan (plan_of count first) trace table stored
