-- The statements leave one answer: one table of the processors that hold records and, by such a table, one answer to 18.
use Prim.Native.Nat.{◌<◌}
use native.Mathlib.Omega.{arith}
use mathlib.Core.Path.{◌≡◌, sym, ◌∙◌}
use mathlib.Core.Bool.{Bool, false}
use mathlib.Core.List.{List}
use lib.Seq.{ext_get_or}
use Rattle.paper.specs.Merging.{share_one}
use Rattle.paper.specs.declared.Entry.{Entry}
use Rattle.common.specs.Held.{Held}

pub one_held : {es : List Entry} {a b : List Bool} → Held es a → Held es b → a ≡ b
one_held {es} {a} {b} p q =
    ext_get_or false a b (p.all ∙ sym q.all) (λ i i<. let low : i < 64 = omega (arith, p.all) in p.each i low ∙ sym (q.each i low))

pub one_sharing : (fs : List Entry) {es : List Entry} {table : List Bool} {r q : Bool} → Held es table → ((es : List Entry) → Held es table → r ≡ share_one es fs)
    → ((es : List Entry) → Held es table → q ≡ share_one es fs) → r ≡ q
one_sharing fs {es} held p q = p es held ∙ sym (q es held)
