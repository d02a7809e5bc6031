-- Times that each processor's records may carry one after the other: in range, and none below the last one of its processor.
use Prim.Native.Nat.{ℕ, suc, ◌<◌}
use native.Mathlib.Omega.{arith}
use native.Mathlib.Decide.{ℕ_discrete}
use mathlib.Core.Path.{◌≡◌, sym}
use mathlib.Core.List.{List, [], ◌∷◌}
use lib.ListN.{length, get_or, set, get_or-replicate, length-set}
use lib.Seq.{get_or-set_same, get_or-set_other}
use lib.IntN.{ℤ, pos, negsuc}
use lib.Signed.{◌≤ℤ◌, le_z_yes}
use lib.Dec.{leb→le, le→leb}
use Rattle.paper.specs.Clock.{limit, time_at}
use Rattle.paper.specs.Reading.{start}
use Rattle.paper.specs.Matching.{entry_at}
use Rattle.paper.specs.declared.Entry.{Entry}
use Rattle.matching.specs.Belongs.{processor}
use Rattle.reading.specs.Tidy.{InRange}
use Rattle.demands.proofs.InOrder.{start_size}

abbrev pub Rises : List ℤ → List Entry → List ℤ → Type 0
Rises last [] [] = Unit
Rises last [] (t ∷ ts) = ⊥
Rises last (e ∷ es) [] = ⊥
Rises last (e ∷ es) (t ∷ ts) = InRange t × (get_or last e.body.processor (pos 0) ≤ℤ t) × Rises (set last e.body.processor t) es ts

-- ---- from the order of any two

record Ordered (last : List ℤ) (es : List Entry) (ts : List ℤ) : Type 0 where
  size : length ts ≡ length es
  places : length last ≡ 64
  place : (k : ℕ) → k < length es → processor es k < 64
  range : (k : ℕ) → k < length es → InRange (time_at ts k)
  above : (k : ℕ) → k < length es → get_or last (processor es k) (pos 0) ≤ℤ time_at ts k
  order : (j k : ℕ) → j < k → k < length es → processor es j ≡ processor es k → time_at ts j ≤ℤ time_at ts k

later : (last : List ℤ) (e : Entry) (es : List Entry) (t : ℤ) (ts : List ℤ) → Ordered last (e ∷ es) (t ∷ ts)
    → Ordered (set last e.body.processor t) es ts
unfolding entry_at
later last e es t ts o =
    record {
      size = let n = o.size in omega arith;
      places = rw length-set o.places;
      place = λ k l. o.place (suc k) (omega arith);
      range = λ k l. o.range (suc k) (omega arith);
      above = λ k l. go k l (ℕ_discrete (processor es k) e.body.processor);
      order = λ j k b l. o.order (suc j) (suc k) (omega arith) (omega arith);
    }
  where
    go : (k : ℕ) → k < length es → Dec (processor es k ≡ e.body.processor) → get_or (set last e.body.processor t) (processor es k) (pos 0) ≤ℤ time_at ts k
    go k l (yes s) =
        rw (s, get_or-set_same last e.body.processor t (pos 0) (omega (arith, o.places, o.place 0 (omega arith))))
        (o.order 0 (suc k) (omega arith) (omega arith) (sym s))
    go k l (no s) = rw (get_or-set_other last e.body.processor (processor es k) t (pos 0) s) (o.above (suc k) (omega arith))

ordered_rises : (last : List ℤ) (es : List Entry) (ts : List ℤ) → Ordered last es ts → Rises last es ts
unfolding entry_at
ordered_rises last [] [] o = tt
ordered_rises last [] (t ∷ ts) o = let n = o.size in omega arith
ordered_rises last (e ∷ es) [] o = let n = o.size in omega arith
ordered_rises last (e ∷ es) (t ∷ ts) o =
    (o.range 0 (omega arith), o.above 0 (omega arith), ordered_rises (set last e.body.processor t) es ts (later last e es t ts o))

-- ---- from the start of a reading

-- before its first record a processor's last time is the least of all
above_start : (t : ℤ) → InRange t → negsuc 999999999999998 ≤ℤ t
above_start (pos n) h = le_z_yes tt
above_start (negsuc n) h = le_z_yes (le→leb n 999999999999998 (omega arith))

pub rises : (es : List Entry) (ts : List ℤ) → length ts ≡ length es → ((k : ℕ) → k < length es → processor es k < 64)
    → ((k : ℕ) → k < length es → InRange (time_at ts k))
    → ((j k : ℕ) → j < k → k < length es → processor es j ≡ processor es k → time_at ts j ≤ℤ time_at ts k) → Rises start.last es ts
unfolding start
rises es ts size place range order =
    ordered_rises start.last es ts
    (record {
      size = size;
      places = start_size;
      place = place;
      range = range;
      above = λ k l. rw (get_or-replicate 64 (processor es k) (negsuc 999999999999998) (pos 0) (place k l)) (above_start (time_at ts k) (range k l));
      order = order;
    })

-- a time between one in range and the limit is in range
pub between : (o t : ℤ) → InRange o → o ≤ℤ t → t ≤ℤ limit → InRange t
between o (pos n) h a b = leb→le n 999999999999999 b.le
between (pos m) (negsuc n) h a b = absurd a.le
between (negsuc m) (negsuc n) h a b = omega (arith, leb→le n m a.le)
