-- 16, or the items in the list.
use Prim.Native.Nat.{ℕ, ◌<◌, ◌≤◌}
use mathlib.Core.Path.{◌≡◌}
use mathlib.Core.List.{List, ◌++◌}
use lib.ListN.{length, drop}
use borrow.Author.Tests.{lt-ltb, le-ltb}
use Rattle.paper.specs.Filling.{untouched, filled_with, on_list}
use Rattle.paper.specs.declared.Filled.{Filled}
use Rattle.answer.specs.Answers.{unfilling, filling_in}

-- ---- the list, by how many items it is to be filled with

module _ {A : Type 0} (items list : List A) {count : ℕ} (many : count ≡ length items) {answer : Filled} (e : answer ≡ filling_in count (length list)) where
  pub list_short : length list < count → record { answer = answer; list = list } ≡ on_list items list
  unfolding filling_in unfilling on_list untouched
  list_short l = rw (e, ← many, lt-ltb (length list) count l)

  pub list_long : count ≤ length list → {list' : List A} → list' ≡ items ++ drop count list → record { answer = answer; list = list' } ≡ on_list items list
  unfolding filling_in on_list filled_with
  list_long l w = rw (e, w, ← many, le-ltb (length list) count l)
