-- A loop that fills a slice from the front, by a rule on the stored entries.
use Prim.Native.Nat.{ℕ, ◌+◌, ◌≤◌, ◌<◌}
use native.Mathlib.Omega.{arith}
use mathlib.Core.Path.{◌≡◌, refl, sym, ap, ◌∙◌}
use mathlib.Core.List.{List}
use lib.ListN.{length, get_or, set, length-set}
use lib.Seq.{ext_get_or, get_or-set_same, get_or-set_other}
use borrow.Author.Count.{below_more}
use Rattle.paper.specs.Clock.{listed}
use Rattle.paper.specs.Matching.{entry_at}
use Rattle.paper.specs.declared.Entry.{Entry}
use Rattle.store.specs.Layout.{entry_from, entries_in}
use Rattle.store.proofs.Laws.{length_entries, entry_in}
use Rattle.store.proofs.Listed.{length_listed, listed_at}

-- the first i of n places hold what the rule says
pub record Filling {A : Type 0} (d : A) (rule : ℕ → A) (n : ℕ) (out : List A) (i : ℕ) : Type 0 where
  pub size : length out ≡ n
  pub upto : i ≤ n
  pub filled : (k : ℕ) → k < i → get_or out k d ≡ rule k

module _ {A : Type 0} (d : A) (rule : ℕ → A) where
  pub fill_none : (out : List A) → Filling d rule (length out) out 0
  fill_none out = record { size = refl; upto = omega arith; filled = λ k l. absurd (omega arith) }

  module _ {n : ℕ} {out : List A} {i : ℕ} (f : Filling d rule n out i) where
    pub fill_next : (v : A) → i < n → v ≡ rule i → Filling d rule n (set out i v) (i + 1)
    fill_next v l e =
        record {
          size = simp length-set f.size;
          upto = omega arith;
          filled =
              below_more (λ k. get_or (set out i v) k d ≡ rule k) i (λ k k<. get_or-set_other out i k v d (λ q. omega arith) ∙ f.filled k k<)
              (get_or-set_same out i v d (omega (arith, f.size)) ∙ e);
        }

    -- filled to the end, it is the whole table
    pub fill_end : n ≤ i → out ≡ listed n rule
    fill_end all =
        ext_get_or d out (listed n rule) (f.size ∙ sym (length_listed n rule))
        (λ k k<. f.filled k (omega (arith, f.size)) ∙ sym (listed_at n rule k d (omega (arith, f.size))))

    pub fill_all : (l : List ℕ) → n ≤ i → out ≡ listed (length (entries_in l n)) rule
    fill_all l all = rw (length_entries l n) (fill_end all)

    -- the same by the length of the slice
    pub fill_more : (v : A) → i < length out → v ≡ rule i → Filling d rule n (set out i v) (i + 1)
    fill_more v l e = fill_next v (omega (arith, f.size)) e

    pub fill_whole : length out ≤ i → out ≡ listed n rule
    fill_whole all = fill_end (omega (arith, f.size))

-- what is said of a record of the store is said of its entry
pub of_entry : {A : Type 0} (f : Entry → A) (l : List ℕ) {n i : ℕ} {v : A} → i < n → v ≡ f (entry_from l i) → v ≡ f (entry_at (entries_in l n) i)
of_entry f l {n} {i} i< e = e ∙ sym (ap f (entry_in l n i i<))
