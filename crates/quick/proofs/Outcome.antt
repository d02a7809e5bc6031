-- Where the statements of the public calls leave an answer besides doubt, they leave one.
use Rattle.std.specs.Prelude.{Option, Result, Some, Ok}
use Prim.Native.Nat.{ℕ}
use mathlib.Core.Path.{◌≡◌, refl, sym, ap, ◌∙◌}
use mathlib.Core.List.{List}
use mathlib.Core.Bool.{Bool, true, false}
use native.Mathlib.Omega.{arith}
use lib.ListN.{length, drop}
use lib.Seq.{length-take-le}
use lib.IntN.{ℤ}
use Rattle.octets.specs.Octets.{index_of}
use Rattle.paper.specs.Line.{six}
use Rattle.paper.specs.declared.Data.{Data}
use Rattle.paper.specs.declared.Head.{Head}
use Rattle.reading.specs.Places.{line_at, next_line}
use Rattle.reading.specs.Rests.{fields_from, end_from}
use Rattle.reading.proofs.Fields.{index_within}
use Rattle.quick.specs.Lines.{OpensAt, BeginsAt, DataAt, HoldsAt}

-- where a line starts is told by its bytes and by where the next one starts
one_start : (s : List ℕ) (n m : ℕ) → line_at s n ≡ line_at s m → next_line s n ≡ next_line s m → n ≡ m
unfolding line_at next_line
one_start s n m e f =
    let long = length-take-le (index_of 10 (drop n s)) (drop n s) (index_within 10 (drop n s)) in
    let also = length-take-le (index_of 10 (drop m s)) (drop m s) (index_within 10 (drop m s)) in
    omega (arith, ap length e, long, also)

one_rest : (s : List ℕ) (a b : Bool) (n m : ℕ) → fields_from s a n ≡ fields_from s b m → end_from s a n ≡ end_from s b m → (a ≡ b) × (n ≡ m)
unfolding fields_from end_from
one_rest s true true n m e f = (refl, f)
one_rest s true false n m e f = (cc, cc)
one_rest s false true n m e f = (cc, cc)
one_rest s false false n m e f = let k : line_at s n ≡ line_at s m = cc in (refl, one_start s n m k f)

pub one_six : (s : List ℕ) (at : ℕ) (h g : Head) (a b : Bool) (n m : ℕ) → BeginsAt s at (Some (h, a, n)) → BeginsAt s at (Some (g, b, m))
    → ◌≡◌ {A = Option (Head × Bool × ℕ)} (Some (h, a, n)) (Some (g, b, m))
unfolding BeginsAt OpensAt
one_six s at h g a b n m e f =
    let both : six h (fields_from s a n) ≡ six g (fields_from s b m) = sym e.reads ∙ f.reads in
    let head : h ≡ g = cc in
    let rest : fields_from s a n ≡ fields_from s b m = cc in
    let one = one_rest s a b n m rest (sym e.same ∙ f.same) in
    rw (head, one.0, one.1)

pub one_data : (s : List ℕ) (ended : Bool) (at : ℕ) (kind : ℤ) (k : ℕ) (v w : Data) (n m : ℕ) → HoldsAt s ended at kind k (Some (v, n))
    → HoldsAt s ended at kind k (Some (w, m))
    → ◌≡◌ {A = Option (Data × ℕ)} (Some (v, n)) (Some (w, m))
unfolding HoldsAt DataAt
one_data s ended at kind k v w n m e f =
    let both : ◌≡◌ {A = Result Data ℕ} (Ok v) (Ok w) = e.is ∙ sym f.is in
    let same : v ≡ w = cc in
    rw (same, ← e.ends, ← f.ends)
