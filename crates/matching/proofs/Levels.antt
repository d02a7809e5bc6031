-- The times do not matter to the levels: of entries that differ in nothing else, 17 says the same.
use Rattle.std.specs.Prelude.{Option, Some, None, option_map}
use Prim.Native.Nat.{ℕ, zero, suc}
use mathlib.Core.Path.{◌≡◌, refl, sym, ap, ◌∙◌}
use mathlib.Core.List.{List, map}
use lib.ListN.{length, length-map}
use Rattle.paper.specs.Levels.{counts, is_mark, agrees, off_at, levels_from, levels_of}
use Rattle.paper.specs.Matching.{entry_at, is_on}
use Rattle.paper.specs.declared.Asked.{Asked}
use Rattle.paper.specs.declared.Entry.{Entry}
use Rattle.matching.proofs.Times.{untimed, Alike, entry_untimed, last_untimed}

mark_untimed : (processor : ℕ) (e : Entry) → is_mark processor (untimed e) ≡ is_mark processor e
unfolding counts
mark_untimed processor e = refl

module _ (a : Asked) (es : List Entry) where
  agrees_untimed : (o : Option ℕ) → agrees a (map untimed es) o ≡ agrees a es o
  unfolding agrees
  agrees_untimed None = refl
  agrees_untimed (Some k) = rw (entry_untimed es k)

  line_untimed : (o : Option ℕ) → option_map (λ k. (entry_at (map untimed es) k).line) o ≡ option_map (λ k. (entry_at es k).line) o
  line_untimed None = refl
  line_untimed (Some k) = rw (entry_untimed es k)

  off_untimed : (processor : ℕ) → off_at a (map untimed es) processor ≡ off_at a es processor
  unfolding off_at
  off_untimed processor =
      rw (
        length-map es untimed,
        last_untimed (is_mark processor) (mark_untimed processor) es (length es),
        last_untimed (is_on processor) (λ e. refl) es (length es),
        agrees_untimed _,
        line_untimed _,
      )

  from_untimed : (processor n : ℕ) → levels_from a (map untimed es) processor n ≡ levels_from a es processor n
  unfolding levels_from
  from_untimed processor zero = refl
  from_untimed processor (suc n) = rw (off_untimed processor, from_untimed (suc processor) n)

  levels_untimed : levels_of a (map untimed es) ≡ levels_of a es
  unfolding levels_of
  levels_untimed = rw (from_untimed 0 64)

pub same_levels : (a : Asked) (es fs : List Entry) → Alike es fs → levels_of a es ≡ levels_of a fs
same_levels a es fs h = sym (levels_untimed a es) ∙ ap (levels_of a) h ∙ levels_untimed a fs
