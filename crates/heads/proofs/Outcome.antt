-- The statement leaves one answer.
use Prim.Native.Nat.{ℕ}
use mathlib.Core.Path.{◌≡◌, sym, ◌∙◌}
use mathlib.Core.List.{List}
use lib.IntN.{ℤ}
use Rattle.heads.specs.declared.Head.{Head}
use Rattle.heads.specs.Heads.{HeadAt}

abbrev head : ℕ → ℕ → ℤ → Head
head from to time = record { from = from; to = to; time = time }

same_head : {f g t u : ℕ} {x y : ℤ} → f ≡ g → t ≡ u → x ≡ y → head f t x ≡ head g u y
same_head from to time = rw (from, to, time)

pub one_head : {s : List ℕ} {at : ℕ} {a b : Head} → HeadAt s at a → HeadAt s at b → a ≡ b
one_head p q = same_head (p.from ∙ sym q.from) (p.to ∙ sym q.to) (p.time ∙ sym q.time)
