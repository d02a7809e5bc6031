-- A line sorted by its record type and its event type.
use Rattle.std.specs.Prelude.{Option, Result, Some, None, Ok, Err}
use Prim.Native.Nat.{ℕ, zero, suc}
use mathlib.Core.Path.{◌≡◌, refl, sym, ap, ◌∙◌}
use mathlib.Core.List.{List}
use mathlib.Core.Bool.{Bool, true, false, cond}
use mathlib.Core.Logic.{◌⊎◌, inl, inr}
use native.Mathlib.Omega.{arith}
use lib.ListN.{length, drop, length-drop}
use lib.IntN.{ℤ}
use lib.Dec.{ltb}
use borrow.Author.Tests.{lt-ltb, le-ltb, ltb-true, ltb-false}
use Rattle.paper.specs.Events.{listed_kind, is_statistics, standing_of, standing_for}
use Rattle.paper.specs.Line.{good_end, unknown, step_over, unlisted, listed_line, sorted, six, begun, line_of, head_of}
use Rattle.paper.specs.declared.Choice.{Choice}
use Rattle.paper.specs.declared.Head.{Head}
use Rattle.paper.specs.declared.Fault.{Fault}
use Rattle.paper.specs.declared.Standing.{Standing}
use Rattle.paper.specs.declared.Line.TheVariants.{Refused}
use Rattle.field.specs.Cursor.{rest_at, Tells}
use Rattle.fields.specs.Cursor.{begun_of, begun_next}
use Rattle.line.specs.Sorting.{standing_in}

-- ---- the end of an unlisted line

module _ (l : List ℕ) (next : ℕ) where
  pub end_none : (n : ℕ) → n ≡ 0 → ltb (length l) next ≡ good_end n (rest_at l next)
  unfolding good_end rest_at
  end_none zero e = go (ltb (length l) next)
    where
      go : (b : Bool) → b ≡ good_end zero (cond b None (Some (drop next l)))
      go true = refl
      go false = refl
  end_none (suc n) e = absurd (omega arith)

  pub end_some : (n : ℕ) → (n ≡ 0 → ⊥) → ltb next (length l) ≡ good_end n (rest_at l next)
  unfolding good_end rest_at
  end_some zero z = absurd (z refl)
  end_some (suc n) z = go (ltb (length l) next) refl
    where
      inner : (b : Bool) → ltb next (length l) ≡ b → b ≡ ltb 0 (length (drop next l))
      inner true e = sym (lt-ltb 0 (length (drop next l)) (simp length-drop (omega (arith, ltb-true next (length l) e))))
      inner false e = sym (le-ltb 0 (length (drop next l)) (simp length-drop (omega (arith, ltb-false next (length l) e))))

      go : (b : Bool) → ltb (length l) next ≡ b → ltb next (length l) ≡ good_end (suc n) (cond b None (Some (drop next l)))
      go true e = le-ltb next (length l) (omega (arith, ltb-true (length l) next e))
      go false e = inner (ltb next (length l)) refl

-- ---- the standing

module _ {kind event k e : ℤ} (same_kind : k ≡ kind) (same-event : e ≡ event) {told : Bool} (tells : told ≡ listed_kind k) where
  module _ (t : told ≡ true) {counts : Bool} (asked : counts ≡ is_statistics k) where
    pub statistics : counts ≡ true → Standing.Listed ≡ standing_in kind event
    unfolding standing_in standing_for
    statistics is = rw (← same_kind, ← tells, t, ← asked, is)

    pub kind_listed : counts ≡ false → standing_of e ≡ standing_in kind event
    unfolding standing_in standing_for
    kind_listed is = rw (← same_kind, ← tells, t, ← asked, is, same-event)

  pub kind_unlisted : told ≡ false → Standing.Unlisted ≡ standing_in kind event
  unfolding standing_in
  kind_unlisted t = rw (← same_kind, ← tells, t)

-- ---- the field that makes a line unlisted

module _ (h : Head) {k : ℤ} (same : k ≡ h.kind) {told : Bool} (tells : told ≡ listed_kind k) where
  pub by_event : told ≡ true → 1 ≡ unknown h
  unfolding unknown
  by_event t = rw (← same, ← tells, t)

  pub by_kind : told ≡ false → 0 ≡ unknown h
  unfolding unknown
  by_kind t = rw (← same, ← tells, t)

-- ---- the line

module _ (choice : Choice) (h : Head) (fields : Option (List ℕ)) where
  pub end_good : good_end h.count fields ≡ true → step_over choice h ≡ unlisted choice h fields
  unfolding unlisted
  end_good e = rw e

  pub end_bad : good_end h.count fields ≡ false → Refused Fault.Form (Some 6) ≡ unlisted choice h fields
  unfolding unlisted
  end_bad e = rw e

  -- the two standings of a listed line
  pub listed_as : (s : Standing) → (s ≡ Standing.Listed) ⊎ (s ≡ Standing.Message) → listed_line h fields ≡ sorted choice h fields s
  unfolding sorted
  listed_as s (inl e) = rw e
  listed_as s (inr e) = rw e

  pub by_standing : begun choice (six h fields) ≡ sorted choice h fields (standing_in h.kind h.event)
  unfolding begun standing_in sorted
  by_standing = go (listed_kind h.kind)
    where
      go : (b : Bool) → cond b (sorted choice h fields (standing_for h.kind h.event)) (unlisted choice h fields)
          ≡ sorted choice h fields (cond b (standing_for h.kind h.event) Standing.Unlisted)
      go true = refl
      go false = refl

  pub stands : {kind event : ℤ} (s : Standing) → kind ≡ h.kind → event ≡ h.event → s ≡ standing_in kind event
      → sorted choice h fields s ≡ begun choice (six h fields)
  stands s k e is = rw (is, k, e, by_standing)

-- ---- from the head

module _ (choice : Choice) (l : List ℕ) (r : Result (Head × ℕ) (Fault × ℕ)) (told : Tells l (begun_of l r) (head_of l) (begun_next r)) where
  pub opened : (h : Head) (next : ℕ) → r ≡ Ok (h, next) → begun choice (six h (rest_at l next)) ≡ line_of choice l
  unfolding line_of begun_of
  opened h next e = ap (begun choice) (sym (ap (begun_of l) e) ∙ told.is)

  pub not_opened : (fault : Fault) (k : ℕ) → r ≡ Err (fault, k) → Refused fault (Some k) ≡ line_of choice l
  unfolding line_of begun_of begun
  not_opened fault k e = ap (begun choice) (sym (ap (begun_of l) e) ∙ told.is)
