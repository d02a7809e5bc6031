-- A small record is read back from its numbers, part by part.
use Rattle.std.specs.Prelude.{Some, None}
use Prim.Native.Nat.{ℕ, ◌+◌, ◌*◌, ◌/◌, ◌%◌, ◌<◌, ◌≤◌, ◌^◌}
use mathlib.Core.Path.{◌≡◌, refl}
use mathlib.Core.List.{List, ◌++◌}
use mathlib.Core.Bool.{Bool, true, false, cond}
use native.Mathlib.Omega.{arith}
use borrow.Author.Tests.{leb-true}
use lib.Dec.{leb, leb-zero}
use lib.IntN.{ℤ, pos, negsuc}
use Rattle.paper.specs.Line.{message_of}
use Rattle.paper.specs.declared.Data.{Data}
use Rattle.paper.specs.declared.Data.TheVariants.{Three, Others}
use Rattle.paper.specs.declared.Message.{Message}
use Rattle.paper.specs.declared.Role.{Role}
use Rattle.paper.specs.declared.Role.TheVariants.{Neither, Send, Receive}
use Rattle.paper.specs.declared.Entry.{Entry}
use Rattle.reading.specs.Tidy.{InRange, Whole, TidyData, Says}
use Rattle.signed.specs.Codes.{code_of, decoded}
use Rattle.signed.proofs.Codes.{code_back, half_code, whole_code, time_code}
use Rattle.store.proofs.Made.{role_low}
use Rattle.store.specs.Layout.{word, role_code, values_code, datum, numbers_of, Small, role_from, values_from, message_from, entry_of}

-- ---- numbers

low : (n : ℕ) → n < 2 ^ 32 → word n ≡ n
low n h = omega arith

both : (n : ℕ) → n < 2 ^ 64 → word n + 2 ^ 32 * word (n / 2 ^ 32) ≡ n
both n h = omega arith

time_back : (z : ℤ) → InRange z → decoded (word (code_of z) + 2 ^ 32 * word (code_of z / 2 ^ 32)) ≡ z
time_back z h = rw (both (code_of z) (time_code z h)) (code_back z)

whole_back : (z : ℤ) → Whole z → decoded (word (code_of z)) ≡ z
whole_back z h = rw (low (code_of z) (whole_code z h)) (code_back z)

half_back : (n : ℕ) → Whole (pos n) → word (code_of (pos n)) / 2 ≡ n
half_back n h = rw (low (code_of (pos n)) (whole_code (pos n) h)) (half_code n)

-- ---- the three that share a number

module _ (p r v : ℕ) (h : p < 64) (g : r ≤ 2) where
  processor_back : (p % 64 + 64 * r + 256 * v) % 64 ≡ p
  processor_back = omega arith

  among_back : (p % 64 + 64 * r + 256 * v) / 64 % 4 ≡ r
  among_back = omega arith

  form_back : (p % 64 + 64 * r + 256 * v) / 256 ≡ v
  form_back = omega arith

-- ---- data and message

values_back : (d : Data) → TidyData d
    → values_from (values_code d) (decoded (word (code_of (datum d 0)))) (decoded (word (code_of (datum d 1)))) (decoded (word (code_of (datum d 2)))) ≡ d
unfolding values_from values_code datum
values_back (Three a b c) t = rw (whole_back a t.0, whole_back b t.1, whole_back c t.2)
values_back Others t = refl

abbrev message_in : (a b c : ℤ) → Message
message_in a b c = record { length = word (code_of a) / 2; tag = decoded (word (code_of b)); peer = word (code_of c) / 2 % 64 }

three_back : (a b c : ℤ) (m : Message) → TidyData (Three a b c) → message_of (Three a b c) ≡ Some m → message_in a b c ≡ m
unfolding message_of
three_back (pos n) b (pos k) m t e = go (leb k 63) refl (rw (leb-zero n, leb-zero k) at e)
  where
    go : (low : Bool) → leb k 63 ≡ low → cond low (Some (record { length = n; tag = b; peer = k })) None ≡ Some m → message_in (pos n) b (pos k) ≡ m
    go true u e =
        let same : ◌≡◌ {A = Message} (record { length = n; tag = b; peer = k }) m = cc in
        let peer : k % 64 ≡ k = omega (arith, leb-true k 63 u) in
        rw (half_back n t.0, whole_back b t.1, half_back k t.2, peer) same
    go false u e = cc
three_back (pos n) b (negsuc k) m t e = let never = rw (leb-zero n) at e in cc
three_back (negsuc n) b c m t e = cc

message_back : (d : Data) (m : Message) → TidyData d → message_of d ≡ Some m → message_in (datum d 0) (datum d 1) (datum d 2) ≡ m
unfolding datum message_of
message_back (Three a b c) m t e = three_back a b c m t e
message_back Others m t e = cc

role_back : (r : Role) (d : Data) → TidyData d → Says r d
    → role_from (role_code r) (message_in (datum d 0) (datum d 1) (datum d 2)) ≡ r
unfolding role_from role_code
role_back Neither d t s = refl
role_back (Send m) d t s = rw (message_back d m t s)
role_back (Receive m) d t s = rw (message_back d m t s)

-- ---- the record

pub read_back : (start : ℕ) (e : Entry) (more : List ℕ) → Small e → entry_of (numbers_of start e ++ more) ≡ e
unfolding entry_of message_from numbers_of
read_back start e more s =
    let b = e.body in
    let t = s.tidy in
    let r = role_code b.role in
    let v = values_code b.values in
    rw (
      low e.line s.line,
      time_back b.time t.time,
      processor_back b.processor r v t.processor (role_low b.role),
      among_back b.processor r v t.processor (role_low b.role),
      form_back b.processor r v t.processor (role_low b.role),
      whole_back b.kind t.kind,
      whole_back b.event t.event,
      values_back b.values t.values,
      role_back b.role b.values t.values t.says,
    )
