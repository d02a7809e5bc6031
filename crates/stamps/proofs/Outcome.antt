-- Any two answers of `third_field`, and of `stamp_of`, that are allowed for the same trace, place or record are the same.
use Prim.Native.Nat.{ℕ, ◌-◌}
use mathlib.Core.Path.{◌≡◌, sym, ap, ◌∙◌}
use mathlib.Core.List.{List}
use native.Mathlib.Omega.{arith}
use lib.ListN.{length, drop, length-drop}
use Rattle.stamps.specs.Stamps.{Place, StampOf}
use Rattle.stamps.specs.declared.Stamp.{Stamp}

pub one_place : {s part : List ℕ} {r r' : ℕ} → Place s part r → Place s part r' → r ≡ r'
one_place {s} {part} {r} {r'} p q =
    let parts : length (drop r s) ≡ length (drop r' s) = ap length (p.from ∙ sym q.from) in
    let left : length s - r ≡ length s - r' = rw (length-drop r s, length-drop r' s) at parts in
    omega (arith, left, p.inside, q.inside)

pub one_stamp : {s store : List ℕ} {i : ℕ} {r r' : Stamp} → StampOf s store i r → StampOf s store i r' → r ≡ r'
one_stamp {r} {r'} a b =
    ap (λ (n : ℕ). record { at = n; long = r.long }) (one_place a.place b.place)
    ∙ ap (λ (n : ℕ). record { at = r'.at; long = n }) (a.long ∙ sym b.long)
