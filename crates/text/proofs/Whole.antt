-- From the places to the table: a table that has no open place holds what the lines say.
use Rattle.std.specs.Prelude.{Option, Some, None, Ok, Err}
use Prim.Native.Nat.{ℕ, zero, suc, ◌+◌, ◌*◌, ◌<◌}
use mathlib.Core.Path.{◌≡◌, refl, sym, ap, ◌∙◌}
use mathlib.Core.Bool.{Bool, true, false}
use mathlib.Core.List.{List, [], ◌∷◌}
use native.Mathlib.Omega.{arith}
use lib.ListN.{length, get_or}
use lib.Dec.{leb}
use borrow.Author.Tests.{eq-eqb}
use Rattle.paper.specs.Reading.{lines_of}
use Rattle.table.specs.Table.{fitting, Encoded}
use Rattle.text.specs.Text.{entry, open_or, first_open, value_of, places, table_of, first_bad, Made, on_open, on_bad, made_of, only_whole, MadeInto}
use Rattle.text.specs.Held.{said_by, held, Unsaid, LinesRead, TableRead}
use Rattle.text.specs.declared.Unmade.{Unmade}

-- places of which the same is said
open_same : (f g : ℕ → Option ℕ) (n k : ℕ) → ((j : ℕ) → j < k + n → f j ≡ g j) → first_open f n k ≡ first_open g n k
unfolding first_open
open_same f g zero k h = refl
open_same f g (suc n) k h = rw (h k (omega arith), open_same f g n (k + 1) (λ j m. h j (omega arith)))

-- the numbers themselves, where each says a latency
table_is : (f : ℕ → Option ℕ) (l : List ℕ) (k : ℕ) → ((j : ℕ) → j < length l → said_by (get_or l j 0) ≡ f (k + j)) → first_open f (length l) k ≡ None → l ≡ places f (length l) k
unfolding first_open places said_by value_of open_or
table_is f [] k h e = refl
table_is f (x ∷ l) k h e =
    go (table_is f l (k + 1) (λ j m. let q : k + 1 + j ≡ k + suc j = omega arith in rw q (h (suc j) (omega arith))))
    (leb x 1000000) refl (let q : k + 0 ≡ k = omega arith in rw q at (h 0 (omega arith)))
  where
    go : (first_open f (length l) (k + 1) ≡ None → l ≡ places f (length l) (k + 1))
        → (t : Bool) → leb x 1000000 ≡ t → said_by x ≡ f k → x ∷ l ≡ value_of (f k) ∷ places f (length l) (k + 1)
    go later true p s = let q : f k ≡ Some x = rw p at (sym s) in rw q (ap (◌∷◌ x) (later (rw q at e)))
    go later false p s = let q : f k ≡ None = rw p at (sym s) in absurd (let r : Some k ≡ None = rw q at e in let z : ◌≡◌ {A = ℕ} 0 1 = cc in omega arith)

-- ---- the answer

module _ {text before after : List ℕ} (open-all : Unsaid before) where
  pub bad_line : {unmade : Unmade} → LinesRead text before (Err unmade) after → TableRead text (Err unmade) after
  unfolding made_of on_bad
  bad_line {unmade} read =
      record {
        answer = go (first_bad 1 (lines_of text)) _ read.tells;
        long = read.long ∙ open-all.long;
        holds = λ e. cc;
      }
    where
      go : (o : Option ℕ) (made : Made) → Err unmade ≡ on_bad o (Ok tt) → Err unmade ≡ on_bad o made
      go None made e = cc
      go (Some n) made e = e

  module _ (read : LinesRead text before (Ok tt) after) where
    long : length after ≡ 4096
    long = read.long ∙ open-all.long

    says : (k : ℕ) → k < 4096 → held after k ≡ entry (lines_of text) k
    unfolding entry
    says k h = read.holds refl k h ∙ rw (open-all.open_yet k h)

    pub all_good : {made : Made} → made ≡ on_open (first_open (held after) (length after) 0) → TableRead text made after
    unfolding made_of on_bad on_open table_of held
    all_good {made} e =
        let same : first_open (held after) 4096 0 ≡ first_open (entry (lines_of text)) 4096 0 = open_same (held after) (entry (lines_of text)) 4096 0 (λ j h. says j (omega arith)) in
        let is : made ≡ on_open (first_open (entry (lines_of text)) 4096 0) = e ∙ rw (long, same) in
        record {
          answer = good (first_bad 1 (lines_of text)) read.tells is;
          long = long;
          holds = λ whole. table (first_open (entry (lines_of text)) 4096 0) refl (sym is ∙ whole);
        }
      where
        good : (o : Option ℕ) → Ok tt ≡ on_bad o (Ok tt) → made ≡ on_open (first_open (entry (lines_of text)) 4096 0)
            → made ≡ on_bad o (on_open (first_open (entry (lines_of text)) 4096 0))
        good None e is = is
        good (Some n) e is = cc

        table : (o : Option ℕ) → first_open (entry (lines_of text)) 4096 0 ≡ o → on_open o ≡ Ok tt → after ≡ table_of text
        table None p w = rw long at (table_is (entry (lines_of text)) after 0 (λ j h. let q : 0 + j ≡ j = omega arith in rw q (says j (omega (arith, long)))) (rw long p))
        table (Some k) p w = cc

-- ---- the room

pub unmade_leaves : {text latencies room : List ℕ} {unmade : Unmade} → TableRead text (Err unmade) latencies → MadeInto text room (Err unmade) room
unfolding only_whole
unmade_leaves read = record { answer = read.answer; holds = refl }

pub made_into : {text latencies before after : List ℕ} {told : Bool}
    → TableRead text (Ok tt) latencies
    → length before ≡ 16384
    → Encoded latencies before told after
    → MadeInto text before (Ok tt) after
unfolding only_whole
made_into {text} {latencies} {before} {after} read wide encoded = record { answer = read.answer; holds = encoded.holds ∙ rw (fits, read.holds refl) }
  where
    fits : fitting before latencies ≡ true
    fits = eq-eqb (length before) (4 * length latencies) (omega (arith, read.long))
