-- The promise of `plan` leaves one answer, and one list that is filled from the numbers.
use Prim.Native.Nat.{ℕ}
use mathlib.Core.Path.{◌≡◌, sym, ap, ◌∙◌}
use mathlib.Core.List.{List}
use lib.ListN.{length, replicate, length-replicate}
use Rattle.paper.specs.Filling.{Query, Filling}
use Rattle.paper.specs.declared.Filled.{Filled}
use Rattle.paper.specs.declared.Pair.{Pair}
use Rattle.mail.specs.Mail.{no_pair}
use Rattle.listing.specs.Plan.{laid, Planned}

module _ {q : Query} {places : ℕ} {r other : Filled} {numbers others : List ℕ} (a : Planned q places r numbers) (b : Planned q places other others) where
  pub one_plan : r ≡ other
  one_plan =
      let blank = replicate places no_pair in
      let size = length-replicate places no_pair in
      ap (λ (f : Filling Pair). f.answer) (a.gives blank size ∙ sym (b.gives blank size))

  pub one_list : (list : List Pair) → length list ≡ places → laid numbers list r.filled ≡ laid others list other.filled
  one_list list size = ap (λ (f : Filling Pair). f.list) (a.gives list size ∙ sym (b.gives list size))
