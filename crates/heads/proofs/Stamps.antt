-- The timestamp of a line, and where the line ends.
use Rattle.std.specs.Prelude.{Option, Some, None}
use Prim.Native.Nat.{ℕ, ◌+◌, ◌-◌, ◌≤◌, ◌<◌}
use native.Mathlib.Omega.{arith}
use mathlib.Core.Path.{◌≡◌, refl, sym, ◌∙◌}
use mathlib.Core.List.{List, []}
use lib.ListN.{length, take, drop, drop_of_length-le}
use lib.IntN.{ℤ, pos}
use borrow.Author.Tests.{le-leb, lt-leb}
use Rattle.octets.specs.Octets.{index_of}
use Rattle.paper.specs.Forms.{time_of, behind_sign, has_minus, time_size, unled, signed}
use Rattle.paper.specs.Line.{field, after, rest, nothing, first, first_of}
use Rattle.paper.specs.Merging.{stamp_of}
use Rattle.forms.proofs.Tests.{never}
use Rattle.reading.specs.Places.{line_at, next_line}
use Rattle.reading.proofs.Found.{line_here, next_here}
use Rattle.stamps.specs.Stamps.{Place}
use Rattle.field.specs.Cursor.{read_as, rest_at, got_of, got_next, Tells}
use Rattle.field.specs.declared.Form.TheVariants.{Time}
use Rattle.field.proofs.Cursors.{inside, got, not_got}
use Rattle.heads.specs.Heads.{end_in, HeadAt}

-- ---- the third field

module _ (l : List ℕ) (at : ℕ) (third : Place l (after (after l)) at) (r : Option (ℤ × ℕ)) (told : Tells l (got_of l r) (first_of (read_as Time) (rest_at l at)) (got_next r)) where
  -- the field that was read
  read_third : first_of (read_as Time) (rest_at l at) ≡ first_of time_of (Some (after (after l)))
  unfolding read_as
  read_third = rw (inside l at third.inside, third.from)

  pub stamp_good : (v : ℤ) (next : ℕ) → r ≡ Some (v, next) → {t : ℤ} → t ≡ v → t ≡ stamp_of l
  unfolding stamp_of first_of
  stamp_good v next e same = same ∙ go (time_of (field (after (after l)))) refl (sym read_third ∙ got l r _ told v next e)
    where
      go : (x : Option ℤ) → time_of (field (after (after l))) ≡ x → first_of time_of (Some (after (after l))) ≡ first v (rest_at l next) → v ≡ stamp_of l
      go (Some t) p q = let is : first t (rest (after (after l))) ≡ first v (rest_at l next) = rw p at q in let same : t ≡ v = cc in rw p (sym same)
      go None p q = let none = rw p at q in never (cc)

  pub stamp_none : r ≡ None → pos 0 ≡ stamp_of l
  unfolding stamp_of first_of
  stamp_none e = go (time_of (field (after (after l)))) refl (sym read_third ∙ not_got l r _ told e)
    where
      go : (x : Option ℤ) → time_of (field (after (after l))) ≡ x → first_of time_of (Some (after (after l))) ≡ nothing → pos 0 ≡ stamp_of l
      go (Some t) p q = let some_time = rw p at q in never (cc)
      go None p q = rw p

-- ---- where the line ends

end_near : (s : List ℕ) (at : ℕ) → next_line s at ≤ length s → end_in s at ≡ next_line s at
unfolding end_in
end_near s at h = rw (le-leb (next_line s at) (length s) h)

end_far : (s : List ℕ) (at : ℕ) → length s < next_line s at → end_in s at ≡ length s
unfolding end_in
end_far s at h = rw (lt-leb (next_line s at) (length s) h)

module _ (s : List ℕ) (at : ℕ) where
  -- behind the last byte there is no line, and none has no timestamp
  pub past_end : length s ≤ at → HeadAt s at (record { from = at; to = length s; time = pos 0 })
  unfolding line_at next_line stamp_of field after index_of time_of behind_sign has_minus time_size unled signed
  past_end h =
      let none : drop at s ≡ [] = drop_of_length-le s h in
      record { from = refl; to = sym (end_far s at (rw none (omega arith))); time = rw none }

  module _ (end : ℕ) (found : (end ≡ at + index_of 10 (drop at s)) × (end ≤ length s)) {time : ℤ} (stamped : time ≡ stamp_of (take (end - at) (drop at s)))
      {t : ℤ} (same : t ≡ time) where
    its_stamp : t ≡ stamp_of (line_at s at)
    its_stamp = same ∙ (rw (line_here s at end found.0) at stamped)

    pub without_lf : end ≡ length s → HeadAt s at (record { from = at; to = end; time = t })
    without_lf e =
        record {
          from = refl;
          to = e ∙ sym (end_far s at (omega (arith, next_here s at end found.0)));
          time = its_stamp;
        }

    pub with_lf : (end ≡ length s → ⊥) → HeadAt s at (record { from = at; to = end + 1; time = t })
    with_lf is-line =
        record {
          from = refl;
          to = next_here s at end found.0 ∙ sym (end_near s at (omega (arith, next_here s at end found.0, found.1)));
          time = its_stamp;
        }
