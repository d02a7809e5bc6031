-- A record as numbers: what the functions that make them come to.
use Prim.Native.Nat.{ℕ, ◌+◌, ◌*◌, ◌/◌, ◌%◌, ◌<◌, ◌≤◌, ◌^◌}
use mathlib.Core.Path.{◌≡◌, ap, ◌∙◌}
use mathlib.Core.List.{List, [], ◌∷◌}
use native.Mathlib.Omega.{arith}
use borrow.Author.Tests.{lt-ltb, le-ltb}
use lib.IntN.{ℤ}
use lib.ListN.{get_or}
use lib.Seq.{paste}
use mir.Syntax.{w64}
use mir.Val.{to_z, of_z}
use Rattle.paper.specs.declared.Data.{Data}
use Rattle.paper.specs.declared.Data.TheVariants.{Three, Others}
use Rattle.paper.specs.declared.Role.{Role}
use Rattle.paper.specs.declared.Role.TheVariants.{Neither, Send, Receive}
use Rattle.paper.specs.declared.Record.{Record}
use Rattle.paper.specs.declared.Entry.{Entry}
use Rattle.signed.specs.Codes.{code_of}
use Rattle.store.specs.Layout.{width, capacity, role_code, values_code, datum, numbers_of, put_at}
use Rattle.store.specs.Parts.{data_words}

-- ---- the code of a number that went through a local, which shows as its bits

module _ {z : ℤ} {n : ℕ} where
  pub code_of_lem : n ≡ code_of (to_z w64 (of_z w64 z)) → to_z w64 (of_z w64 z) ≡ z → n ≡ code_of z
  code_of_lem e h = e ∙ ap code_of h

  pub word_of : n ≡ code_of (to_z w64 (of_z w64 z)) % 2 ^ 32 → to_z w64 (of_z w64 z) ≡ z → n ≡ code_of z % 2 ^ 32
  word_of e h = rw h at e

-- ---- the codes of role and data

pub role_low : (r : Role) → role_code r ≤ 2
unfolding role_code
role_low Neither = omega arith
role_low (Send m) = omega arith
role_low (Receive m) = omega arith

pub values_low : (d : Data) → values_code d ≤ 1
unfolding values_code
values_low (Three a b c) = omega arith
values_low Others = omega arith

-- ---- the data

pub words_others : {d : Data} → d ≡ Others → 0 ∷ 0 ∷ 0 ∷ [] ≡ data_words d
unfolding data_words datum code_of
words_others e = rw e

pub words_three : {d : Data} {a b c : ℤ} {x y z : ℕ} → d ≡ Three a b c → x ≡ code_of a % 2 ^ 32 → y ≡ code_of b % 2 ^ 32
    → z ≡ code_of c % 2 ^ 32
    → x ∷ y ∷ z ∷ [] ≡ data_words d
unfolding data_words datum
words_three e f g h = rw (e, f, g, h)

-- ---- all ten

pub numbers_are : (line start : ℕ) (b : Record) {time mixed kind event : ℕ} {words : List ℕ} → time ≡ code_of b.time
    → mixed ≡ b.processor % 64 + 64 * role_code b.role + 256 * values_code b.values
    → kind ≡ code_of b.kind % 2 ^ 32
    → event ≡ code_of b.event % 2 ^ 32
    → words ≡ data_words b.values
    → time % 2 ^ 32
    ∷ time / 2 ^ 32 % 2 ^ 32
    ∷ line % 2 ^ 32
    ∷ start % 2 ^ 32
    ∷ mixed
    ∷ kind
    ∷ event
    ∷ get_or words 0 0
    ∷ get_or words 1 0
    ∷ get_or words 2 0
    ∷ []
    ≡ numbers_of start (record { line = line; body = b })
unfolding numbers_of data_words
numbers_are line start b te me ke ee de = rw (te, me, ke, ee, de)

-- ---- the numbers put into a store

module _ (l : List ℕ) (i start : ℕ) (e : Entry) where
  pub no_room : capacity l ≤ i → l ≡ put_at l i start e
  unfolding put_at
  no_room h = rw (le-ltb i (capacity l) h)

  -- what the loop that copies the numbers leaves
  pub is_put : {numbers r : List ℕ} {k : ℕ} → i < capacity l → numbers ≡ numbers_of start e → k ≡ width
      → r ≡ paste l (i * width) numbers k
      → r ≡ put_at l i start e
  unfolding put_at numbers_of width
  is_put h n all p =
      let q : i * width ≡ width * i = omega arith in
      rw (lt-ltb i (capacity l) h, ← q, p, n, all)
