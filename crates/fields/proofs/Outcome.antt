-- The statement leaves one answer.
use Rattle.std.specs.Prelude.{Result, Ok, Err}
use Prim.Native.Nat.{ℕ, ◌+◌, ◌≤◌}
use mathlib.Core.Path.{◌≡◌, sym, ◌∙◌}
use mathlib.Core.List.{List}
use lib.ListN.{length}
use Rattle.paper.specs.Line.{head_of}
use Rattle.field.proofs.Outcome.{one_cursor}
use Rattle.field.specs.Cursor.{rest_at, Tells}
use Rattle.fields.specs.Cursor.{begun_of, begun_next}
use Rattle.paper.specs.declared.Head.{Head}
use Rattle.paper.specs.declared.Fault.{Fault}

same_begun : (l : List ℕ) (r q : Result (Head × ℕ) (Fault × ℕ)) → begun_of l r ≡ begun_of l q → begun_next r ≤ length l + 1 → begun_next q ≤ length l + 1 → r ≡ q
unfolding begun_of
same_begun l (Ok (h, n)) (Ok (g, m)) e a b =
    let k : h ≡ g = cc in
    let d : rest_at l n ≡ rest_at l m = cc in
    rw (k, one_cursor l n m d a b)
same_begun l (Ok (h, n)) (Err (f, i)) e a b = cc
same_begun l (Err (f, i)) (Ok (g, m)) e a b = cc
same_begun l (Err (f, i)) (Err (g, j)) e a b =
    let k : f ≡ g = cc in
    let d : i ≡ j = cc in
    rw (k, d)

pub one_head : (l : List ℕ) (r q : Result (Head × ℕ) (Fault × ℕ)) → Tells l (begun_of l r) (head_of l) (begun_next r) → Tells l (begun_of l q) (head_of l) (begun_next q) → r ≡ q
one_head l r q e f = same_begun l r q (e.is ∙ sym f.is) e.near f.near
