-- The pairs of a slice of numbers, and what noting one more message does to them.
use mathlib.Core.Path.{◌≡◌, ◌∙◌}
use Prim.Native.Nat.{ℕ, ◌+◌, ◌*◌, ◌/◌, ◌<◌}
use native.Mathlib.Omega.{arith}
use mathlib.Core.List.{List}
use lib.ListN.{length, get_or, set, length-set}
use lib.Seq.{get_or-set_same, get_or-set_other}
use borrow.Author.Tests.{lt-ltb}
use Rattle.paper.specs.declared.Pair.{Pair}
use Rattle.mail.specs.Mail.{pair_at, put}

abbrev two : (send receive : ℕ) → Pair
two send receive = record { send = send; receive = receive }

module _ (l : List ℕ) (n s r : ℕ) where
  abbrev one : List ℕ
  one = set l (2 * n) s

  pub put_length : length (put l n s r) ≡ length l
  unfolding put
  put_length = length-set one (2 * n + 1) r ∙ length-set l (2 * n) s

  -- a number that is neither of the two
  same : (i : ℕ) → (i ≡ 2 * n → ⊥) → (i ≡ 2 * n + 1 → ⊥) → get_or (set one (2 * n + 1) r) i 0 ≡ get_or l i 0
  same i a b = get_or-set_other one (2 * n + 1) i r 0 b ∙ get_or-set_other l (2 * n) i s 0 a

  -- the pair that was put
  pub put_here : n < length l / 2 → pair_at (put l n s r) n ≡ two s r
  unfolding pair_at put
  put_here h =
      let low : 2 * n < length l = omega (arith, h) in
      let high : 2 * n + 1 < length one = rw (length-set l (2 * n) s) (let g : 2 * n + 1 < length l = omega (arith, h) in g) in
      let first : get_or (set one (2 * n + 1) r) (2 * n) 0 ≡ s =
      get_or-set_other one (2 * n + 1) (2 * n) r 0 (λ e. omega (arith, e)) ∙ get_or-set_same l (2 * n) s 0 low in
      rw (put_length, lt-ltb n (length l / 2) h, get_or-set_same one (2 * n + 1) r 0 high, first)

  -- the pairs before it
  pub put_before : (k : ℕ) → k < n → pair_at (put l n s r) k ≡ pair_at l k
  unfolding pair_at put
  put_before k h =
      let first = same (2 * k) (λ e. omega (arith, e, h)) (λ e. omega (arith, e, h)) in
      let second = same (2 * k + 1) (λ e. omega (arith, e, h)) (λ e. omega (arith, e, h)) in
      rw (put_length, first, second)
