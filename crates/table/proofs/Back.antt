-- What is written is read back: the bytes of a table hold its latencies.
use Prim.Native.Nat.{ℕ, suc, ◌+◌, ◌*◌, ◌/◌, ◌%◌, ◌<◌, ◌^◌}
use mathlib.Core.Path.{◌≡◌, refl, sym, ap, ◌∙◌}
use mathlib.Core.List.{List, [], ◌∷◌}
use native.Mathlib.Nat.{div-div-eq-div-mul}
use native.Mathlib.Omega.{arith}
use lib.ListN.{length, get_or}
use Rattle.table.specs.Table.{low_first, latencies_of, bytes_for}

whole : (n p q : ℕ) → p ≡ n / 256 → q ≡ p / 256 → n < 2 ^ 32 → n % 256 + 256 * (p % 256) + 65536 * (q % 256) + 16777216 * (q / 256 % 256) ≡ n
whole n p q e f h = omega arith

four_back : (n : ℕ) → n < 2 ^ 32 → low_first (n % 256) (n / 256 % 256) (n / 65536 % 256) (n / 16777216 % 256) ≡ n
four_back n h =
    let two : n / 65536 ≡ n / 256 / 256 = sym (div-div-eq-div-mul n 256 256) in
    let three : n / 16777216 ≡ n / 256 / 256 / 256 = sym (ap (λ (k : ℕ). k / 256) (div-div-eq-div-mul n 256 256) ∙ div-div-eq-div-mul n 65536 256) in
    rw (two, three) (whole n (n / 256) (n / 256 / 256) (omega arith) (omega arith) (omega arith))

pub bytes_back : (l : List ℕ) → ((i : ℕ) → i < length l → get_or l i 0 < 2 ^ 32) → latencies_of (bytes_for l) ≡ l
unfolding latencies_of bytes_for
bytes_back [] h = refl
bytes_back (n ∷ l) h = rw (four_back n (h 0 (omega arith))) (ap (◌∷◌ n) (bytes_back l (λ i k. h (suc i) (omega arith))))

pub bytes_long : (l : List ℕ) → length (bytes_for l) ≡ 4 * length l
unfolding bytes_for
bytes_long [] = refl
bytes_long (n ∷ l) = omega (arith, bytes_long l)
