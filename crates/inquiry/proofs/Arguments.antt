-- What the arguments ask for, by the tests told.
use Rattle.std.specs.Prelude.{Result, Ok, Err}
use Prim.Native.Nat.{ℕ, ◌≤◌, ◌<◌}
use mathlib.Core.Path.{◌≡◌, sym, ◌∙◌}
use mathlib.Core.Bool.{Bool, true, false}
use mathlib.Core.List.{List}
use borrow.Author.Tests.{lt-ltb, le-ltb, eq-eqb, ne_eqb}
use Rattle.paper.specs.Columns.{nowhere}
use Rattle.paper.specs.declared.Answer.{Answer}
use Rattle.paper.specs.declared.Asked.{Asked}
use Rattle.paper.specs.declared.Fault.TheVariants as Fault
use Rattle.answer.specs.Answers.{refusal}
use Rattle.arguments.specs.Arguments.{plan_of, choice_and_share}
use Rattle.named.specs.Values.{share_of}
use Rattle.report.specs.declared.Said.TheVariants as Said
use Rattle.inquiry.specs.Arguments.{too_many, without_share, share_in, on_plan, start_of}
use Rattle.showing.specs.declared.Shows.{Shows}
use Rattle.showing.specs.declared.Shows.TheVariants.{Messages, Reasons}
use Rattle.arguments.specs.declared.Misuse.{Misuse}

-- ---- the share

module _ {shows : Shows} {count : ℕ} where
  pub no_share : shows ≡ Messages → count ≡ without_share shows count
  unfolding without_share
  no_share s = rw s

  module _ (s : shows ≡ Reasons) where
    pub one_less : count ≡ 6 → 5 ≡ without_share shows count
    unfolding without_share
    one_less e = rw (s, eq-eqb count 6 e)

    pub as_many : (count ≡ 6 → ⊥) → count ≡ without_share shows count
    unfolding without_share
    as_many h = rw (s, ne_eqb count 6 h)

module _ (count : ℕ) (word : List ℕ) where
  pub share_named : {share : ℕ} → 5 < count → share ≡ share_of word → share ≡ share_in count word
  unfolding share_in
  share_named h e = rw (lt-ltb 5 count h) e

  pub share_unnamed : count ≤ 5 → 0 ≡ share_in count word
  unfolding share_in
  share_unnamed h = rw (le-ltb 5 count h)

-- ---- the plan

module _ (shows : Shows) (count : ℕ) (choice share : List ℕ) {but : ℕ} {plan : Result (ℕ × Bool) Misuse} (less : but ≡ without_share shows count)
    (planned : plan ≡ plan_of but choice) where
  plan_is : (is : Result (ℕ × Bool) Misuse) → plan ≡ is → plan_of (without_share shows count) choice ≡ is
  plan_is is e = rw (← less) (sym planned ∙ e)

  pub refuses : {answer : Answer} → plan ≡ Err Misuse.BadChoice → answer ≡ refusal Fault.BadChoice nowhere
      → Err (Said.Answered answer) ≡ start_of shows count choice share
  unfolding start_of on_plan
  refuses e a = rw (plan_is _ e, a)

  pub says_many : plan ≡ Err Misuse.TooMany → Err Said.TooMany ≡ start_of shows count choice share
  unfolding start_of on_plan
  says_many e = rw (plan_is _ e)

  pub says_unnamed : plan ≡ Err Misuse.Unnamed → Err Said.CannotRead ≡ start_of shows count choice share
  unfolding start_of on_plan
  says_unnamed e = rw (plan_is _ e)

  module _ {which : ℕ} {more t : Bool} (e : plan ≡ Ok (which, more)) (tested : t ≡ too_many shows more) where
    pub one_more : t ≡ true → Err Said.TooMany ≡ start_of shows count choice share
    unfolding start_of on_plan
    one_more h = rw (plan_is _ e, sym tested ∙ h)

    pub judges : {kept : ℕ} {asked : Asked} → t ≡ false → kept ≡ share_in count share → asked ≡ choice_and_share which kept
        → Ok asked ≡ start_of shows count choice share
    unfolding start_of on_plan
    judges h k a = rw (plan_is _ e, sym tested ∙ h, ← k, a)
