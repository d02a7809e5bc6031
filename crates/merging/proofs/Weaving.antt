-- The lines put into the room one behind the other: what holds before each step, and at the end.
use Prim.Native.Nat.{ℕ, ◌+◌, ◌-◌, ◌≤◌, ◌<◌}
use native.Mathlib.Omega.{arith}
use native.Mathlib.Nat.{zero-add}
use mathlib.Core.Path.{◌≡◌, refl, sym, subst, ◌∙◌}
use mathlib.Core.Logic.{◌⊎◌, inl, inr}
use mathlib.Core.Bool.{Bool, true, false, cond}
use mathlib.Core.List.{List, [], ◌++◌, append_assoc, append-nil}
use lib.ListN.{length, drop, length-append, length-drop, drop_of_length-le}
use lib.Seq.{sets, sets-eq, length-sets}
use lib.Signed.{le_z}
use Rattle.paper.specs.Reading.{lines_of}
use Rattle.paper.specs.Merging.{merged_bytes}
use Rattle.reading.specs.Joined.{AllEnded}
use Rattle.shown.proofs.Stores.{sets_append}
use Rattle.heads.specs.Heads.{HeadAt}
use Rattle.heads.specs.declared.Head.{Head}
use Rattle.merges.proofs.Lines.{merged_length, first_empty, second_empty}
use Rattle.merging.specs.Weave.{Whole, Fits, part_of, chosen, advanced_by, Advanced, rest_put, room_after}
use Rattle.merging.proofs.Steps.{Line, head_line, first_next, second_next, part_long}

pub record Going (first second room₀ room : List ℕ) (a b : Head) : Type 0 where
  pub at_first : HeadAt first a.from a
  pub at_second : HeadAt second b.from b
  pub in_first : a.from ≤ length first
  pub in_second : b.from ≤ length second
  pub left_first : AllEnded (lines_of (drop a.from first))
  pub left_second : AllEnded (lines_of (drop b.from second))
  -- what was put, and with what is left it is the whole
  pub before : List ℕ
  pub long : length before ≡ a.from + b.from
  pub whole : before ++ merged_bytes (drop a.from first) (drop b.from second) ≡ merged_bytes first second
  pub holds : room ≡ sets room₀ 0 before

-- a head by its place
placed : {s : List ℕ} {at : ℕ} {h : Head} → HeadAt s at h → HeadAt s h.from h
placed {s} {at} {h} head = subst (λ (n : ℕ). HeadAt s n h) (sym head.from) head

pub going_start : (first second room : List ℕ) → Whole first → Whole second → {a b : Head} → HeadAt first 0 a → HeadAt second 0 b
    → Going first second room room a b
going_start first second room all all' {a} {b} p q =
    record {
      at_first = placed p;
      at_second = placed q;
      in_first = omega (arith, p.from);
      in_second = omega (arith, q.from);
      left_first = rw p.from all;
      left_second = rw q.from all';
      before = [];
      long = omega (arith, p.from, q.from);
      whole = rw (p.from, q.from);
      holds = refl;
    }

module _ {first second room₀ room : List ℕ} {a b : Head} (going : Going first second room₀ room a b) where
  -- the room is as long as it was
  pub still_long : length room ≡ length room₀
  still_long = rw going.holds (length-sets room₀ 0 going.before)

  pub still_fits : Fits first second room₀ → Fits first second room
  still_fits fits = rw still_long fits

  -- ---- a step

  module _ (some_Is_first : a.from < length first) (some_second : b.from < length second) where
    pub line_first : Line first a
    line_first = head_line going.at_first some_Is_first going.left_first

    pub line_second : Line second b
    line_second = head_line going.at_second some_second going.left_second

    -- the room with one more line, and all that is merged
    module _ (line : List ℕ) {room₁ : List ℕ} (puts : room₁ ≡ sets room (a.from + b.from) line) where
      put_line : room₁ ≡ sets room₀ 0 (going.before ++ line)
      put_line =
          puts ∙ rw (going.holds, ← going.long) (sym (rw zero-add at (sets_append going.before line room₀ 0)))

      merged_line : (rest : List ℕ) → merged_bytes (drop a.from first) (drop b.from second) ≡ line ++ rest
          → (going.before ++ line) ++ rest ≡ merged_bytes first second
      merged_line rest e = rw append_assoc (rw e at going.whole)

    by_order : (t : Bool) → t ≡ le_z a.time b.time → {room₁ : List ℕ}
        → room₁ ≡ sets room (a.from + b.from) (cond t (part_of first a) (part_of second b)) → {a' b' : Head} → advanced_by t first second a b a' b'
        → Going first second room₀ room₁ a' b'
    unfolding advanced_by
    by_order true e puts {a'} (head, same) =
        rw same
        (record {
          at_first = placed head;
          at_second = going.at_second;
          in_first = rw head.from line_first.within.high;
          in_second = going.in_second;
          left_first = rw head.from line_first.later;
          left_second = going.left_second;
          before = going.before ++ part_of first a;
          long = rw (head.from, length-append) (omega (arith, going.long, part_long line_first.within, line_first.further));
          whole = rw head.from (merged_line (part_of first a) puts _ (first_next line_first line_second e));
          holds = put_line (part_of first a) puts;
        })
    by_order false e puts {b' = b'} (same, head) =
        rw same
        (record {
          at_first = going.at_first;
          at_second = placed head;
          in_first = going.in_first;
          in_second = rw head.from line_second.within.high;
          left_first = going.left_first;
          left_second = rw head.from line_second.later;
          before = going.before ++ part_of second b;
          long = rw (head.from, length-append) (omega (arith, going.long, part_long line_second.within, line_second.further));
          whole = rw head.from (merged_line (part_of second b) puts _ (second_next line_first line_second e));
          holds = put_line (part_of second b) puts;
        })

    pub going_more : {room₁ : List ℕ} → room₁ ≡ sets room (a.from + b.from) (chosen first second a b) → {a' b' : Head}
        → Advanced first second a b a' b' → Going first second room₀ room₁ a' b'
    unfolding chosen
    going_more puts advances = by_order (le_z a.time b.time) refl puts advances

    -- less is left
    less : (t : Bool) (a' b' : Head) → advanced_by t first second a b a' b'
        → length first - a'.from + (length second - b'.from) < length first - a.from + (length second - b.from)
    unfolding advanced_by
    less true a' b' (head, same) = rw (same, head.from) (omega (arith, line_first.further, line_first.within.high))
    less false a' b' (same, head) = rw (same, head.from) (omega (arith, line_second.further, line_second.within.high))

    pub going_less : (a' b' : Head) → Advanced first second a b a' b'
        → length first - a'.from + (length second - b'.from) < length first - a.from + (length second - b.from)
    going_less a' b' advances = less (le_z a.time b.time) a' b' advances

  -- ---- the end

  rest_first : length second ≤ b.from → merged_bytes (drop a.from first) (drop b.from second) ≡ drop a.from first ++ drop b.from second
  rest_first none = rw (drop_of_length-le second none, append-nil) (second_empty (drop a.from first))

  rest_second : length first ≤ a.from → merged_bytes (drop a.from first) (drop b.from second) ≡ drop a.from first ++ drop b.from second
  rest_second none = rw (drop_of_length-le first none) (first_empty (drop b.from second))

  module _ (all : Whole first) (all' : Whole second) (fits : Fits first second room₀) where
    ended : merged_bytes (drop a.from first) (drop b.from second) ≡ drop a.from first ++ drop b.from second
        → rest_put first second a.from b.from room ≡ room_after (merged_bytes first second) room₀
    unfolding rest_put room_after
    ended e =
        let x = drop a.from first in
        let y = drop b.from second in
        let behind : length first + b.from ≡ a.from + b.from + length x = simp length-drop (omega (arith, going.in_first)) in
        let both : sets (sets room (a.from + b.from) x) (length first + b.from) y ≡ sets room (a.from + b.from) (x ++ y) =
        rw behind (sym (sets_append x y room (a.from + b.from))) in
        let start : sets room (a.from + b.from) (x ++ y) ≡ sets room₀ 0 (going.before ++ (x ++ y)) =
        rw (going.holds, ← going.long) (sym (rw zero-add at (sets_append going.before (x ++ y) room₀ 0))) in
        let whole : going.before ++ (x ++ y) ≡ merged_bytes first second = rw e at going.whole in
        let short : length (merged_bytes first second) ≤ length room₀ = rw (merged_length first second all all') fits in
        both ∙ start ∙ rw whole (sets-eq (merged_bytes first second) room₀ 0 (rw zero-add short) ∙ rw zero-add)

    -- however it was told that one trace has no line any more
    pub woven : {A B : Type 0} → A ⊎ B → (A → length second ≤ b.from) → (B → length first ≤ a.from) → {room₁ : List ℕ}
        → room₁ ≡ rest_put first second a.from b.from room → room₁ ≡ room_after (merged_bytes first second) room₀
    woven (inl x) no_second no_first puts = puts ∙ ended (rest_first (no_second x))
    woven (inr x) no_second no_first puts = puts ∙ ended (rest_second (no_first x))
