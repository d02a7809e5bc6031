-- A complaint is one line, whatever the caller typed: its first line feed is its last byte.
use Prim.Native.Nat.{ℕ, suc, ◌≤◌}
use mathlib.Core.Path.{◌≡◌, refl, ap}
use mathlib.Core.Bool.{Bool, true, false, cond, ◌&&◌}
use mathlib.Core.List.{List, [], ◌∷◌, ◌++◌}
use native.Mathlib.Omega.{arith}
use lib.ListN.{length, take}
use lib.Dec.{leb}
use borrow.Author.Tests.{leb-true, ne_eqb}
use Rattle.octets.specs.Octets.{index_of}
use Rattle.paper.specs.Text.{bytes_of}
use Rattle.named.specs.Values.{written}
use Rattle.flags.specs.Plan.{bad, missing}
use Rattle.complaint.specs.Complaint.{visible, all_visible, word_shown, line_of, complaint_of}
use Rattle.named.specs.declared.Name.{Name}
use Rattle.named.specs.declared.Name.TheVariants.{Choice, Trace, Table, Levels, Statistics, Share, Out}

-- what is shown of a byte is no line feed
visible_high : (b : ℕ) → 33 ≤ visible b
unfolding visible
visible_high b = go (leb 33 b) (leb b 126) refl
  where
    go : (s t : Bool) → leb 33 b ≡ s → 33 ≤ cond (s && t) b 63
    go true true e = leb-true 33 b e
    go true false e = omega arith
    go false t e = omega arith

ends_there : (word : List ℕ) → index_of 10 (all_visible word ++ (10 ∷ [])) ≡ length (all_visible word)
unfolding index_of all_visible
ends_there [] = refl
ends_there (b ∷ word) = let high = visible_high b in rw (ne_eqb (visible b) 10 (λ e. omega arith)) (ap suc (ends_there word))

ends_long : (text : List ℕ) → length (text ++ (10 ∷ [])) ≡ suc (length text)
ends_long [] = refl
ends_long (b ∷ text) = ap suc (ends_long text)

pub bad_line : (word : List ℕ) → suc (index_of 10 (complaint_of (bad word))) ≡ length (complaint_of (bad word))
unfolding complaint_of line_of word_shown bytes_of index_of
bad_line word = rw (ends_there (take 200 word), ends_long (all_visible (take 200 word)))

pub missing_line : (name : Name) → suc (index_of 10 (complaint_of (missing name))) ≡ length (complaint_of (missing name))
unfolding complaint_of line_of written bytes_of index_of
missing_line Choice = refl
missing_line Trace = refl
missing_line Table = refl
missing_line Levels = refl
missing_line Statistics = refl
missing_line Share = refl
missing_line Out = refl
