-- What each check looks at of the numbers that a caller names: where these are the same, so is what it comes to.
use Rattle.std.specs.Prelude.{Option, Some, None}
use Prim.Native.Nat.{ℕ, zero, suc}
use mathlib.Core.Path.{◌≡◌, refl}
use mathlib.Core.List.{List}
use lib.ListN.{length}
use Rattle.paper.specs.Levels.{last_mark, expected, agrees, off_at, levels_from, levels_of}
use Rattle.paper.specs.Matching.{entry_at}
use Rattle.paper.specs.Statistics.{statistics_of}
use Rattle.paper.specs.Answer.{heard}
use Rattle.paper.specs.declared.Asked.{Asked}
use Rattle.paper.specs.declared.Data.{Data}
use Rattle.paper.specs.declared.Data.TheVariants.{Three, Others}
use Rattle.paper.specs.declared.Entry.{Entry}
use Rattle.demands.specs.Shares.{sharing}

-- ---- 17: the four numbers of the levels

pub record SameLevels (a b : Asked) : Type 0 where
  pub levels : a.levels ≡ b.levels
  pub picl : a.picl ≡ b.picl
  pub user : a.user ≡ b.user
  pub trace : a.trace ≡ b.trace

module _ (a b : Asked) (same : SameLevels a b) (es : List Entry) where
  same_expected : (v : Data) → expected a v ≡ expected b v
  unfolding expected
  same_expected (Three picl user trace) = rw (same.picl, same.user, same.trace)
  same_expected Others = refl

  same_agrees : (o : Option ℕ) → agrees a es o ≡ agrees b es o
  unfolding agrees
  same_agrees None = refl
  same_agrees (Some k) = same_expected (entry_at es k).body.values

  same_off : (p : ℕ) → off_at a es p ≡ off_at b es p
  unfolding off_at
  same_off p = rw (same_agrees (last_mark es p (length es)))

  same_from : (n p : ℕ) → levels_from a es p n ≡ levels_from b es p n
  unfolding levels_from
  same_from zero p = refl
  same_from (suc n) p = rw (same_off p, same_from n (suc p))

  pub same_levels : levels_of a es ≡ levels_of b es
  unfolding levels_of
  same_levels = rw (same_from 64 0, same.levels)

-- ---- none of 1, 17 and 19 looks at the share

module _ (share : ℕ) (a : Asked) where
  pub heard_shared : heard (sharing share a) ≡ heard a
  unfolding heard
  heard_shared = refl

  pub levels_shared : (es : List Entry) → levels_of (sharing share a) es ≡ levels_of a es
  levels_shared = same_levels (sharing share a) a (record { levels = refl; picl = refl; user = refl; trace = refl })

  pub statistics_shared : (trace : List ℕ) (es : List Entry) → statistics_of (sharing share a) trace es ≡ statistics_of a trace es
  unfolding statistics_of
  statistics_shared trace es = refl
