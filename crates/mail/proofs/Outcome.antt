-- The promise of `gather` leaves one answer where the numbers are enough: how many messages there are, and the numbers that they begin with.
use Prim.Native.Nat.{ℕ, ◌<◌}
use mathlib.Core.Path.{◌≡◌, sym, ◌∙◌}
use mathlib.Core.List.{List}
use Rattle.paper.specs.declared.Pair.{Pair}
use Rattle.mail.specs.Mail.{pair_at, Holds}

module _ {items : List Pair} {count other : ℕ} {numbers others : List ℕ} (a : Holds items count numbers) (b : Holds items other others) where
  pub one_count : count ≡ other
  one_count = sym a.many ∙ b.many

  pub one_beginning : (k : ℕ) → k < count → pair_at numbers k ≡ pair_at others k
  one_beginning k k< = a.each k k< ∙ sym (b.each k (rw one_count at k<))
