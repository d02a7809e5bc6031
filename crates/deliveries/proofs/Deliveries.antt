-- The whole text: the lines, or that there are none.
use Prim.Native.Nat.{ℕ, ◌+◌, ◌*◌, ◌/◌, ◌≤◌, ◌<◌}
use mathlib.Core.Path.{◌≡◌, refl, sym, ◌∙◌}
use mathlib.Core.Bool.{Bool, true, false, not}
use mathlib.Core.List.{List, [], ◌∷◌}
use native.Mathlib.Omega.{arith}
use lib.ListN.{length}
use lib.IntN.{ℤ}
use lib.Dec.{eqb, ltb}
use borrow.Author.Tests.{eq-eqb, ne_eqb, eqb-true, ltb-true, not-true, not-false}
use Rattle.paper.specs.Text.{bytes_of}
use Rattle.paper.specs.Clock.{time_at}
use Rattle.paper.specs.declared.Entry.{Entry}
use Rattle.paper.specs.declared.Pair.{Pair}
use Rattle.store.specs.Layout.{entries_in}
use Rattle.report.specs.Put.{Put, Short}
use Rattle.report.specs.Report.{named}
use Rattle.report.proofs.Puts.{then, counted, as_long}
use Rattle.forms.proofs.Tests.{both}
use Rattle.lines.specs.Adding.{Added}
use Rattle.lines.specs.Parts.{record_shown}
use Rattle.lines.specs.Lines.{message_shown, party_shown}
use Rattle.report.proofs.Outcome.{one_put}
use Rattle.deliveries.specs.Deliveries.{line_of, lines_of, deliveries_of, pairs_in, fitting, DeliveredInto}

-- ---- whether the slices fit

module _ (sends times room : ℕ) where
  pub other_length : (times ≡ sends → ⊥) → eqb times sends ≡ fitting sends times room
  unfolding fitting
  other_length h = rw (ne_eqb times sends h)

  pub by_room : times ≡ sends → ltb sends (room / 256) ≡ fitting sends times room
  unfolding fitting
  by_room h = rw (eq-eqb times sends h)

  pub record Fits : Type 0 where
    pub all : times ≡ sends
    pub wide : 256 * sends + 256 ≤ room

  pub they_fit : fitting sends times room ≡ true → Fits
  unfolding fitting
  they_fit e =
      let (a, w) = both _ _ e in
      let h : sends < room / 256 = ltb-true sends (room / 256) w in
      record { all = eqb-true times sends a; wide = omega arith }

-- ---- the text

module _ (es : List Entry) (x : ℕ → ℤ) where
  -- no line is empty
  some_line : (p : Pair) (ps : List Pair) → 0 < length (lines_of es x (p ∷ ps))
  unfolding lines_of line_of message_shown party_shown record_shown named bytes_of
  some_line p ps = omega arith

  none_put : (ps : List Pair) {room after filled : List ℕ} {n end : ℕ} → n ≡ 0 → Put room 0 (lines_of es x ps) n after
      → Put after 0 (bytes_of "no messages\n") end filled → Put room 0 (deliveries_of es x ps) end filled
  unfolding lines_of deliveries_of
  none_put [] e p q = then (rw e at p) q
  none_put (m ∷ ps) e p q = absurd (omega (arith, e, p.ends, some_line m ps))

  some_put : (ps : List Pair) {room after : List ℕ} {end : ℕ} → (end ≡ 0 → ⊥) → Put room 0 (lines_of es x ps) end after
      → Put room 0 (deliveries_of es x ps) end after
  unfolding lines_of deliveries_of
  some_put [] h p = absurd (h p.ends)
  some_put (m ∷ ps) h p = p

-- ---- the statement

module _ (store sends : List ℕ) (times : List ℤ) (room : List ℕ) {t : Bool} (tested : t ≡ fitting (length sends) (length times) (length room)) where
  abbrev es : List Entry
  es = entries_in store (length times)

  pub misfits : not t ≡ true → DeliveredInto store sends times room 0 room
  misfits e =
      let f : fitting (length sends) (length times) (length room) ≡ false = sym tested ∙ not-true t e in
      record {
        there = λ h. absurd (let z : ◌≡◌ {A = ℕ} 0 1 = cc in omega arith);
        misfit = λ h. (refl, refl);
        counts = (omega arith, refl);
      }

  module _ (e : not t ≡ false) where
    it_fits : fitting (length sends) (length times) (length room) ≡ true
    it_fits = sym tested ∙ not-false t e

    pub fit : Fits (length sends) (length times) (length room)
    fit = they_fit (length sends) (length times) (length room) it_fits

    by_put : {end : ℕ} {after : List ℕ} → Put room 0 (deliveries_of es (time_at times) (pairs_in sends)) end after → DeliveredInto store sends times room end after
    by_put p = record { there = λ h. p; misfit = λ h. absurd (let z : ◌≡◌ {A = ℕ} 0 1 = cc in omega arith); counts = counted p }

    module _ {n : ℕ} {after : List ℕ} (p : Short (256 * length sends) room 0 (lines_of es (time_at times) (pairs_in sends)) n after) where
      pub none_said : {end : ℕ} {filled : List ℕ} → n ≡ 0 → Added after 0 (bytes_of "no messages\n") end filled → DeliveredInto store sends times room end filled
      unfolding bytes_of
      none_said z a = by_put (none_put es (time_at times) (pairs_in sends) z p.put (a.there (omega (arith, fit.wide, as_long p.put))))

      pub lines_said : (n ≡ 0 → ⊥) → DeliveredInto store sends times room n after
      lines_said h = by_put (some_put es (time_at times) (pairs_in sends) h p.put)

-- and it leaves one answer
pub one_delivered : {store sends : List ℕ} {times : List ℤ} {room : List ℕ} {r q : ℕ} {a b : List ℕ}
    → DeliveredInto store sends times room r a → DeliveredInto store sends times room q b → (r ≡ q) × (a ≡ b)
one_delivered {store} {sends} {times} {room} {r} {q} {a} {b} x y = by (fitting (length sends) (length times) (length room)) refl
  where
    by : (t : Bool) → fitting (length sends) (length times) (length room) ≡ t → (r ≡ q) × (a ≡ b)
    by true e = one_put (x.there e) (y.there e)
    by false e = let s = x.misfit e in let t = y.misfit e in (s.0 ∙ sym t.0, s.1 ∙ sym t.1)
