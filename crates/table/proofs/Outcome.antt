-- The statements of `decode` and of `encode`: each leaves one outcome, and the code's two ways out meet it.
use Prim.Native.Nat.{ℕ, ◌*◌}
use mathlib.Core.Path.{◌≡◌, sym, ◌∙◌}
use mathlib.Core.List.{List}
use mathlib.Core.Bool.{Bool, true, false}
use lib.ListN.{length}
use borrow.Author.Tests.{eq-eqb, ne_eqb}
use Rattle.table.specs.Table.{latencies_of, bytes_for, Decoded, Encoded}

pub one_decoded : {file before : List ℕ} {r q : Bool} {a b : List ℕ} → Decoded file before r a → Decoded file before q b → (r ≡ q) × (a ≡ b)
one_decoded p q = (p.says ∙ sym q.says, p.holds ∙ sym q.holds)

-- what each way through `decode` comes to
pub refused : {file before : List ℕ} → (length file ≡ 4 * length before → ⊥) → Decoded file before false before
refused {file} {before} h = let e = ne_eqb (length file) (4 * length before) h in record { says = sym e; holds = rw e }

pub filled : {file before after : List ℕ} → length file ≡ 4 * length before → after ≡ latencies_of file → Decoded file before true after
filled {file} {before} h e = let t = eq-eqb (length file) (4 * length before) h in record { says = sym t; holds = rw t e }

-- ---- `encode`

pub one_encoded : {latencies before : List ℕ} {r q : Bool} {a b : List ℕ} → Encoded latencies before r a → Encoded latencies before q b → (r ≡ q) × (a ≡ b)
one_encoded p q = (p.says ∙ sym q.says, p.holds ∙ sym q.holds)

pub unwritten : {latencies before : List ℕ} → (length before ≡ 4 * length latencies → ⊥) → Encoded latencies before false before
unwritten {latencies} {before} h = let e = ne_eqb (length before) (4 * length latencies) h in record { says = sym e; holds = rw e }

pub written : {latencies before after : List ℕ} → length before ≡ 4 * length latencies → after ≡ bytes_for latencies → Encoded latencies before true after
written {latencies} {before} h e = let t = eq-eqb (length before) (4 * length latencies) h in record { says = sym t; holds = rw t e }
