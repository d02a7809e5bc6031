-- The statements of `word_at` and of `name_of`: each leaves one outcome. The other calls' are equations.
use Rattle.std.specs.Prelude.{Option}
use Prim.Native.Nat.{ℕ, ◌-◌, ◌≤◌}
use mathlib.Core.Path.{◌≡◌, sym, ap, ◌∙◌}
use mathlib.Core.List.{List}
use native.Mathlib.Omega.{arith}
use lib.ListN.{length, length-take, length-drop}
use Rattle.named.specs.Parts.{cut, Within, WordAt}
use Rattle.named.specs.declared.Span.{Span}
use Rattle.named.specs.declared.Name.{Name}

cut_long : (line : List ℕ) (span : Span) → Within line span → length (cut line span) ≡ span.to - span.from
unfolding cut
cut_long line span w = rw (length-take, length-drop) (omega (arith, w.ordered, w.inside))

same_end : (from from' to to' : ℕ) → from ≡ from' → from ≤ to → from' ≤ to' → to - from ≡ to' - from' → to ≡ to'
same_end from from' to to' e a b d = omega arith

same_span : {from from' to to' : ℕ} → from ≡ from' → to ≡ to' → ◌≡◌ {A = Span} (record { from = from; to = to }) (record { from = from'; to = to' })
same_span e d = rw (e, d)

pub one_word : {separator at : ℕ} {line : List ℕ} (a b : Span) → WordAt separator line at a → WordAt separator line at b → a ≡ b
one_word {line = line} a b x y =
    let start : a.from ≡ b.from = x.starts ∙ sym y.starts in
    let long : a.to - a.from ≡ b.to - b.from = sym (cut_long line a x.within) ∙ ap length (x.is ∙ sym y.is) ∙ cut_long line b y.within in
    same_span start (same_end a.from b.from a.to b.to start x.within.ordered y.within.ordered long)

pub one_name : {name : Option Name} (r q : Option Name) → r ≡ name → q ≡ name → r ≡ q
one_name r q a b = a ∙ sym b
