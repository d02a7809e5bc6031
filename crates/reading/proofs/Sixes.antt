-- A line that has at least six fields begins as what each of them reads as.
use Rattle.std.specs.Prelude.{Option, ℤ}
use Prim.Native.Nat.{ℕ}
use mathlib.Core.Path.{◌≡◌}
use mathlib.Core.Bool.{true}
use mathlib.Core.List.{List}
use lib.IntN.{nat_abs}
use Rattle.paper.specs.Forms.{whole_of, time_of}
use Rattle.paper.specs.Line.{field, after, rest, fields_above, on_field, count_of, Begun, bad, six, place_of, six_of, head_of}
use Rattle.paper.specs.declared.Fault.TheVariants as Fault
use Rattle.reading.proofs.Stamp.{took, rest_on, above}

-- the six fields read as a to f
abbrev pub read_as : (a b c d e f : Option ℤ) → Option (List ℕ) → Begun
read_as a b c d e f fields =
    on_field a (bad Fault.Form 0) (λ kind.
    on_field b (bad Fault.Form 1) (λ event.
    on_field c (bad Fault.Stamp 2) (λ time.
    on_field d (bad Fault.Form 3) (λ processor.
    on_field e (bad Fault.Form 4) (λ process.
    on_field f (bad Fault.Form 5) (λ count.
    six (record { kind = kind; event = event; time = time; processor = processor; process = process; count = nat_abs count }) fields))))))

-- what follows k fields
abbrev pub after₂ : List ℕ → List ℕ
after₂ l = after (after l)

abbrev pub after₃ : List ℕ → List ℕ
after₃ l = after (after₂ l)

abbrev pub after₄ : List ℕ → List ℕ
after₄ l = after (after₃ l)

abbrev pub after₅ : List ℕ → List ℕ
after₅ l = after (after₄ l)

pub head_read : (l : List ℕ) → fields_above 5 l ≡ true
    → head_of l
    ≡ read_as (whole_of (field l)) (whole_of (field (after l))) (time_of (field (after₂ l))) (whole_of (field (after₃ l)))
    (whole_of (field (after₄ l))) (count_of (field (after₅ l))) (rest (after₅ l))
unfolding head_of six_of place_of
head_read l e =
    let (g₀, e₁) = above 4 l e in
    let (g₁, e₂) = above 3 (after l) e₁ in
    let (g₂, e₃) = above 2 (after₂ l) e₂ in
    let (g₃, e₄) = above 1 (after₃ l) e₃ in
    let (g₄, e₅) = above 0 (after₄ l) e₄ in
    rw e
    (simp (took, rest_on l g₀, rest_on (after l) g₁, rest_on (after₂ l) g₂, rest_on (after₃ l) g₃, rest_on (after₄ l) g₄))
