-- Which number stands where: the record at a place by its numbers, one by one.
use Prim.Native.Nat.{ℕ, ◌+◌, ◌*◌, ◌/◌, ◌%◌, ◌<◌, ◌≤◌, ◌^◌}
use mathlib.Core.Path.{◌≡◌, refl, ◌∙◌}
use mathlib.Core.List.{List}
use mathlib.Core.Bool.{Bool, true, false}
use native.Mathlib.Omega.{arith}
use borrow.Author.Tests.{lt-ltb, le-ltb, eq-eqb, ne_eqb}
use lib.Dec.{ltb}
use lib.IntN.{ℤ}
use lib.ListN.{get_or}
use lib.Seq.{get_or-drop}
use mir.Syntax.{w64}
use mir.Val.{to_z, of_z}
use Rattle.paper.specs.declared.Data.{Data}
use Rattle.paper.specs.declared.Data.TheVariants.{Three, Others}
use Rattle.paper.specs.declared.Message.{Message}
use Rattle.paper.specs.declared.Role.{Role}
use Rattle.paper.specs.declared.Role.TheVariants.{Neither, Send, Receive}
use Rattle.paper.specs.declared.Entry.{Entry}
use Rattle.signed.specs.Codes.{decoded}
use Rattle.store.specs.Layout.{width, capacity, role_from, values_from, message_from, entry_of, entry_from, On}
use Rattle.store.specs.Parts.{part_at, message_at}

-- a signed number that went through a local shows as its bits
pub through : {t u : ℤ} → t ≡ u → to_z w64 (of_z w64 t) ≡ t → to_z w64 (of_z w64 t) ≡ u
through e h = h ∙ e

module _ (l : List ℕ) (i : ℕ) where
  -- ---- a number

  pub no_part : (k : ℕ) → capacity l ≤ i → 0 ≡ part_at l i k
  unfolding part_at
  no_part k h = rw (le-ltb i (capacity l) h)

  pub a_part : (k : ℕ) → i < capacity l → get_or l (i * width + k) 0 ≡ part_at l i k
  unfolding part_at width
  a_part k h =
      let q : i * width ≡ width * i = omega arith in
      rw (lt-ltb i (capacity l) h, get_or-drop (width * i) l k 0, q)

  -- ---- the record

  abbrev by_parts : Entry
  by_parts =
      record {
        line = part_at l i 2;
        body = record {
          time = decoded (part_at l i 0 + 2 ^ 32 * part_at l i 1);
          processor = part_at l i 4 % 64;
          kind = decoded (part_at l i 5);
          event = decoded (part_at l i 6);
          values = values_from (part_at l i 4 / 256) (decoded (part_at l i 7)) (decoded (part_at l i 8)) (decoded (part_at l i 9));
          role = role_from (part_at l i 4 / 64 % 4) (message_at l i);
        };
      }

  pub by_parts_lem : entry_from l i ≡ by_parts
  unfolding entry_from entry_of message_from message_at part_at values_from role_from decoded
  by_parts_lem = go (ltb i (capacity l)) refl
    where
      go : (t : Bool) → ltb i (capacity l) ≡ t → entry_from l i ≡ by_parts
      go true e = rw e
      go false e = rw e

  -- ---- its parts, from the numbers that the code has read

  pub line_is : {p : ℕ} → p ≡ part_at l i 2 → p ≡ (entry_from l i).line
  line_is e = rw (by_parts_lem, e)

  pub time_is : {p q : ℕ} {t : ℤ} → p ≡ part_at l i 0 → q ≡ part_at l i 1 → t ≡ decoded (p + 2 ^ 32 * q) → t ≡ (entry_from l i).body.time
  time_is e f g = rw (by_parts_lem, ← e, ← f, g)

  pub kind_is : {z : ℤ} → z ≡ decoded (part_at l i 5) → z ≡ (entry_from l i).body.kind
  kind_is e = rw (by_parts_lem, e)

  pub event_is : {z : ℤ} → z ≡ decoded (part_at l i 6) → z ≡ (entry_from l i).body.event
  event_is e = rw (by_parts_lem, e)

  pub processor_is : {p : ℕ} → p ≡ part_at l i 4 → On (entry_from l i) (p % 64)
  processor_is {p} e = record { is = rw (by_parts_lem, e); low = omega arith }

  pub message_is : {p q : ℕ} {t : ℤ} → p ≡ part_at l i 7 → t ≡ decoded (part_at l i 8) → q ≡ part_at l i 9
      → ◌≡◌ {A = Message} (record { length = p / 2; tag = t; peer = q / 2 % 64 }) (message_at l i)
  unfolding message_at
  message_is e f g = rw (e, f, g)

  module _ {p : ℕ} (mixed : p ≡ part_at l i 4) where
    pub sends : {m : Message} → m ≡ message_at l i → p / 64 % 4 ≡ 1 → Send m ≡ (entry_from l i).body.role
    unfolding role_from
    sends e t = rw (by_parts_lem, ← mixed, ← e, eq-eqb _ 1 t)

    pub receives : {m : Message} → m ≡ message_at l i → p / 64 % 4 ≡ 2 → Receive m ≡ (entry_from l i).body.role
    unfolding role_from
    receives e t = rw (by_parts_lem, ← mixed, ← e, t)

    pub neither : (p / 64 % 4 ≡ 1 → ⊥) → (p / 64 % 4 ≡ 2 → ⊥) → Neither ≡ (entry_from l i).body.role
    unfolding role_from
    neither t u = rw (by_parts_lem, ← mixed, ne_eqb _ 1 t, ne_eqb _ 2 u)

    pub three : {a b c : ℤ} → a ≡ decoded (part_at l i 7) → b ≡ decoded (part_at l i 8) → c ≡ decoded (part_at l i 9) → p / 256 ≡ 1
        → Three a b c ≡ (entry_from l i).body.values
    unfolding values_from
    three e f g t = rw (by_parts_lem, ← mixed, t, e, f, g)

    pub others : (p / 256 ≡ 1 → ⊥) → Others ≡ (entry_from l i).body.values
    unfolding values_from
    others t = rw (by_parts_lem, ← mixed, ne_eqb _ 1 t)

  pub entry_is : {t : ℤ} {line processor : ℕ} {kind event : ℤ} {values : Data} {role : Role} → line ≡ (entry_from l i).line
      → t ≡ (entry_from l i).body.time → On (entry_from l i) processor → kind ≡ (entry_from l i).body.kind → event ≡ (entry_from l i).body.event
      → values ≡ (entry_from l i).body.values
      → role ≡ (entry_from l i).body.role
      → ◌≡◌ {A = Entry}
      (record { line = line; body = record { time = t; processor = processor; kind = kind; event = event; values = values; role = role } })
      (entry_from l i)
  entry_is le te on ke ee ve re = rw (le, te, on.is, ke, ee, ve, re)
