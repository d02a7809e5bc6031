-- The six fields put together from the fields that were read.
use Rattle.std.specs.Prelude.{Option, Some, None}
use Prim.Native.Nat.{ℕ}
use mathlib.Core.Path.{◌≡◌, sym, subst, ◌∙◌}
use mathlib.Core.List.{List}
use mathlib.Core.Bool.{Bool, false}
use lib.IntN.{ℤ, pos}
use Rattle.paper.specs.Forms.{whole_of, time_of}
use Rattle.paper.specs.Line.{first, first_of, count_of, six, place_of}
use Rattle.field.specs.Cursor.{rest_at}
use Rattle.field.proofs.Counts.{count_good}
use Rattle.field.proofs.Cursors.{at_start}
use Rattle.fields.proofs.Heads.{good_three, six_head}
use Rattle.signed.specs.Naturals.{natural_of}
use Rattle.reading.specs.Places.{line_at}
use Rattle.reading.specs.Rests.{fields_from, end_from}
use Rattle.quick.specs.Lines.{Told, CountAt, OpensAt, PlaceAt, BeginsAt}
use Rattle.paper.specs.declared.Head.{Head}

-- "Number of data fields: 0 to 999"
pub count_here : (s : List ℕ) (at : ℕ) (ended : Bool) (next n : ℕ) {u v : ℤ} → u ≡ v → natural_of 999 u ≡ Some n
    → Told (first_of whole_of (Some (line_at s at))) (first v) s at ended next → Told (first_of count_of (Some (line_at s at))) (first (pos n)) s at ended next
count_here s at ended next n p q t =
    record { reads = sym (count_good (Some (line_at s at)) (fields_from s ended next) n p t.reads q); same = t.same; near = t.near }

pub counted : (s : List ℕ) (at : ℕ) (r : Option (ℕ × Bool × ℕ)) → CountAt s at r → (n : ℕ) (ended : Bool) (next : ℕ) → r ≡ Some (n, ended, next)
    → Told (first_of count_of (Some (line_at s at))) (first (pos n)) s at ended next
unfolding CountAt
counted s at r t n ended next e = subst (CountAt s at) e t

-- the last three fields
pub place_here : (s : List ℕ) (at p₄ p₅ next : ℕ) (ended : Bool) (n : ℕ) {k k' e e' t t' p p' q q' : ℤ} → k' ≡ k → e' ≡ e → t' ≡ t → p' ≡ p → q' ≡ q
    → Told (first_of whole_of (Some (line_at s at))) (first p) s at false p₄ → Told (first_of whole_of (Some (line_at s p₄))) (first q) s p₄ false p₅
    → Told (first_of count_of (Some (line_at s p₅))) (first (pos n)) s p₅ ended next
    → Told (place_of k e t (Some (line_at s at))) (six (record { kind = k'; event = e'; time = t'; processor = p'; process = q'; count = n })) s at ended next
unfolding place_of fields_from end_from
place_here s at p₄ p₅ next ended n a b c d e x y z =
    record { reads = rw (x.reads, y.reads, z.reads, a, b, c, d, e); same = x.same ∙ y.same ∙ z.same; near = z.near }

-- the first three, and the answer behind them
pub six_here : (s : List ℕ) (at p₁ p₂ p₃ : ℕ) {k k' e e' t t' : ℤ} → k' ≡ k → e' ≡ e → t' ≡ t
    → Told (first_of whole_of (Some (line_at s at))) (first k) s at false p₁ → Told (first_of whole_of (Some (line_at s p₁))) (first e) s p₁ false p₂
    → Told (first_of time_of (Some (line_at s p₂))) (first t) s p₂ false p₃ → (r : Option (Head × Bool × ℕ)) → PlaceAt k' e' t' s p₃ r → BeginsAt s at r
unfolding PlaceAt BeginsAt OpensAt fields_from end_from
six_here s at p₁ p₂ p₃ {k = k} a b c x y z (Some (h, ended, next)) u =
    let first₀ : first_of whole_of (rest_at (line_at s at) 0) ≡ first k (Some (line_at s p₁)) = rw (at_start (line_at s at)) x.reads in
    let whole = good_three (line_at s at) _ _ first₀ _ _ y.reads _ _ z.reads a b c in
    record { reads = six_head (line_at s at) h _ (sym whole ∙ u.reads); same = x.same ∙ y.same ∙ z.same ∙ u.same; near = u.near }
six_here s at p₁ p₂ p₃ a b c x y z None u = tt
