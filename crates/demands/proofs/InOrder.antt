-- What the reading makes sure of: there are not too many listed records, the time of each is in range, and none is below an earlier
-- one of its processor.
use Rattle.std.specs.Prelude.{Ok}
use Prim.Native.Nat.{ℕ, zero, suc, ◌+◌, ◌≤◌, ◌<◌}
use native.Mathlib.Omega.{arith}
use native.Mathlib.Decide.{ℕ_discrete}
use mathlib.Core.Path.{◌≡◌}
use mathlib.Core.List.{List, [], ◌∷◌}
use lib.ListN.{length, get_or, set, length-set, length-replicate}
use lib.Seq.{get_or-set_same, get_or-set_other}
use lib.IntN.{ℤ, pos, negsuc}
use lib.Signed.{◌≤ℤ◌, ≤ℤ_refl}
use Rattle.paper.specs.Reading.{Lines, State, with_passed, with_listed, read_of, start}
use Rattle.paper.specs.Matching.{entry_at}
use Rattle.paper.specs.declared.Choice.{Choice}
use Rattle.paper.specs.declared.Entry.{Entry}
use Rattle.paper.specs.declared.Record.{Record}
use Rattle.matching.specs.Belongs.{processor}
use Rattle.reading.specs.Tidy.{InRange}
use Rattle.reading.proofs.Tidy.{tidy_record, time_of_line}
use Rattle.reading.proofs.Along.{Reads, ends, passes, lists, along}
use Rattle.rounds.proofs.Order.{≤ℤ-trans}
use Rattle.demands.specs.Steps.{original}

-- entries whose times are in range and in order, from the last times of each processor on
record Next (last : List ℤ) (r : Record) : Type 0 where
  range : InRange r.time
  place : r.processor < 64
  above : get_or last r.processor (pos 0) ≤ℤ r.time

abbrev InOrder : List ℤ → List Entry → Type 0
InOrder last [] = Unit
InOrder last (e ∷ es) = Next last e.body × InOrder (set last e.body.processor e.body.time) es

-- ---- along the reading

module _ {choice : Choice} {most : ℕ} where
  along_order : {x : Lines} {n : ℕ} {st st₁ : State} {es : List Entry} → Reads choice most x n st es st₁ → InOrder st.last es
  unfolding with_passed with_listed
  along_order ends = tt
  along_order (passes p more) = along_order more
  along_order (lists {l = l} {r = r} p above room more) =
      (record { range = time_of_line choice l r p; place = (tidy_record choice l r p).processor; above = above }, along_order more)

  along_few : {x : Lines} {n : ℕ} {st st₁ : State} {es : List Entry} → Reads choice most x n st es st₁ → st.listed ≤ most → st.listed + length es ≤ most
  unfolding with_passed with_listed
  along_few ends h = omega arith
  along_few (passes p more) h = along_few more h
  along_few (lists p above room more) h = omega (arith, along_few more (omega arith))

-- ---- place by place

ranges : (last : List ℤ) (es : List Entry) → InOrder last es → (k : ℕ) → k < length es → InRange (original es k)
unfolding entry_at
ranges last [] o k l = absurd (omega arith)
ranges last (e ∷ es) o zero l = o.0.range
ranges last (e ∷ es) o (suc k) l = ranges (set last e.body.processor e.body.time) es o.1 k (omega arith)

places : (last : List ℤ) (es : List Entry) → InOrder last es → (k : ℕ) → k < length es → processor es k < 64
unfolding entry_at
places last [] o k l = absurd (omega arith)
places last (e ∷ es) o zero l = o.0.place
places last (e ∷ es) o (suc k) l = places (set last e.body.processor e.body.time) es o.1 k (omega arith)

-- the last time of a processor only grows
grows : (last : List ℤ) → length last ≡ 64 → (r : Record) → Next last r → (p : ℕ) → get_or last p (pos 0) ≤ℤ get_or (set last r.processor r.time) p (pos 0)
grows last size r n p = go (ℕ_discrete p r.processor)
  where
    go : Dec (p ≡ r.processor) → get_or last p (pos 0) ≤ℤ get_or (set last r.processor r.time) p (pos 0)
    go (yes e) = rw (e, get_or-set_same last r.processor r.time (pos 0) (omega (arith, n.place))) n.above
    go (no e) = rw (get_or-set_other last r.processor p r.time (pos 0) e) (≤ℤ_refl (get_or last p (pos 0)))

lasts : (last : List ℤ) → length last ≡ 64 → (es : List Entry) → InOrder last es → (k : ℕ) → k < length es
    → get_or last (processor es k) (pos 0) ≤ℤ original es k
unfolding entry_at
lasts last size [] o k l = absurd (omega arith)
lasts last size (e ∷ es) o zero l = o.0.above
lasts last size (e ∷ es) o (suc k) l =
    ≤ℤ-trans (grows last size e.body o.0 (processor es k))
    (lasts (set last e.body.processor e.body.time) (rw length-set size) es o.1 k (omega arith))

orders : (last : List ℤ) → length last ≡ 64 → (es : List Entry) → InOrder last es → (j k : ℕ) → j < k → k < length es
    → processor es j ≡ processor es k → original es j ≤ℤ original es k
unfolding entry_at
orders last size [] o j k b l e = absurd (omega arith)
orders last size (f ∷ es) o j zero b l e = absurd (omega arith)
orders last size (f ∷ es) o zero (suc k) b l e =
    rw (← e, get_or-set_same last f.body.processor f.body.time (pos 0) (omega (arith, o.0.place))) at
    (lasts (set last f.body.processor f.body.time) (rw length-set size) es o.1 k (omega arith))
orders last size (f ∷ es) o (suc j) (suc k) b l e =
    orders (set last f.body.processor f.body.time) (rw length-set size) es o.1 j k (omega arith) (omega arith) e

-- ---- the entries of a reading

pub start_size : length start.last ≡ 64
unfolding start
start_size = length-replicate 64 (negsuc 999999999999998)

module _ (choice : Choice) (most : ℕ) (s : List ℕ) (whole : (read_of choice most s).stop ≡ Ok tt) where
  abbrev es : List Entry
  es = (read_of choice most s).entries

  order : InOrder start.last es
  order = along_order (along choice most s whole)

  pub few_entries : length es ≤ most
  unfolding start
  few_entries = omega (arith, along_few (along choice most s whole) (omega arith))

  pub originals_range : (k : ℕ) → k < length es → InRange (original es k)
  originals_range = ranges start.last es order

  pub originals_place : (k : ℕ) → k < length es → processor es k < 64
  originals_place = places start.last es order

  pub originals_order : (j k : ℕ) → j < k → k < length es → processor es j ≡ processor es k → original es j ≤ℤ original es k
  originals_order = orders start.last start_size es order
