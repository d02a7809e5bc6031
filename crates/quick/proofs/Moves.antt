-- A cursor moved over a field of the line in which it stands, whose LF nobody looked for: a word that reads well has neither a space nor
-- an LF in it, so that it is the whole field.
use Rattle.std.specs.Prelude.{Option, Some, None}
use Prim.Native.Nat.{ℕ, suc, ◌+◌, ◌-◌, ◌≤◌}
use mathlib.Core.Path.{◌≡◌, refl, ap, subst, ◌∙◌}
use mathlib.Core.List.{List, [], ◌∷◌, ◌++◌, append-nil}
use mathlib.Core.Bool.{Bool, true, false, cond}
use native.Mathlib.Omega.{arith}
use native.Mathlib.Nat.{add-zero}
use lib.ListN.{length, take, drop, length-append, length-drop}
use lib.Seq.{take-append-add, take-length}
use lib.IntN.{ℤ, pos}
use borrow.Author.Tests.{le-ltb}
use Rattle.octets.specs.Octets.{index_of}
use Rattle.paper.specs.Text.{is_same}
use Rattle.paper.specs.Forms.{whole_of, time_of, text_of, times_quoted, numbers_quoted}
use Rattle.paper.specs.Line.{field, rest, goes_on, first, first_of}
use Rattle.forms.specs.Free.{Free, foreign}
use Rattle.forms.proofs.Goods.{whole_free, time_free}
use Rattle.field.specs.Cursor.{read_as}
use Rattle.field.specs.declared.Form.{Form}
use Rattle.field.specs.declared.Form.TheVariants.{Whole, Time, TimesQuoted, NumbersQuoted}
use Rattle.reading.specs.Places.{line_at, next_line}
use Rattle.reading.specs.Rests.{fields_from, end_from}
use Rattle.reading.proofs.Fields.{index_past, free_before, field_of, rest_of}
use Rattle.forms.proofs.Texts.{same_means}
use Rattle.quick.specs.Words.{Stands, FieldAt}
use Rattle.quick.specs.Lines.{stop_of, Told, ValueAt}

-- ---- a word without a byte

index_none : (b : ℕ) (w : List ℕ) → Free b w → index_of b w ≡ length w
unfolding index_of
index_none b w h = rw (append-nil w) at (index_past b w [] h) ∙ add-zero (length w)

-- a form in which no good word has a space or an LF
pub record Clean (form : List ℕ → Option ℤ) : Type 0 where
  no_space : (w : List ℕ) (v : ℤ) → form w ≡ Some v → Free 32 w
  no_end : (w : List ℕ) (v : ℤ) → form w ≡ Some v → Free 10 w

is_foreign : (foreign 32 ≡ true) × (foreign 10 ≡ true)
unfolding foreign Rattle.paper.specs.Forms.is_digit
is_foreign = (refl, refl)

pub whole_clean : Clean whole_of
whole_clean = record { no_space = whole_free 32 is_foreign.0; no_end = whole_free 10 is_foreign.1 }

pub time_clean : Clean time_of
time_clean = record { no_space = time_free 32 is_foreign.0; no_end = time_free 10 is_foreign.1 }

-- a field that is a text is nothing but this text
text_good : (text w : List ℕ) (v : ℤ) → text_of text w ≡ Some v → w ≡ text
unfolding text_of
text_good text w v e = go (is_same w text) refl e
  where
    go : (t : Bool) → is_same w text ≡ t → cond t (Some (pos 0)) None ≡ Some v → w ≡ text
    go true is e = same_means w text is
    go false is e = cc

text_clean : (text : List ℕ) → take (index_of 32 text) text ≡ text → take (index_of 10 text) text ≡ text → Clean (text_of text)
text_clean text space end =
    record {
      no_space = λ w v e. rw (text_good text w v e) (subst (Free 32) space (free_before 32 text));
      no_end = λ w v e. rw (text_good text w v e) (subst (Free 10) end (free_before 10 text));
    }

pub form_clean : (form : Form) → Clean (read_as form)
unfolding read_as times_quoted numbers_quoted index_of
form_clean Whole = whole_clean
form_clean Time = time_clean
form_clean TimesQuoted = text_clean _ refl refl
form_clean NumbersQuoted = text_clean _ refl refl

-- ---- over the byte that ends the field

module _ (form : List ℕ → Option ℤ) (clean : Clean form) (s : List ℕ) (at : ℕ) (v : ℤ) (next : ℕ) where
  long : (stop : ℕ) (t : Stands form s at v stop next) → length s - at ≡ length t.word + suc (length s - next)
  long stop t = simp length-drop at (ap length t.is ∙ length-append t.word (stop ∷ drop next s))

  module _ (t : Stands form s at v 32 next) where
    no_space : Free 32 t.word
    no_space = clean.no_space t.word v t.reads

    index_on : index_of 10 (drop at s) ≡ length t.word + suc (index_of 10 (drop next s))
    unfolding index_of
    index_on = rw t.is (index_past 10 t.word (32 ∷ drop next s) (clean.no_end t.word v t.reads))

    line_on : line_at s at ≡ t.word ++ (32 ∷ line_at s next)
    unfolding line_at
    line_on = rw (index_on, t.is) (take-append-add t.word (32 ∷ drop next s) (suc (index_of 10 (drop next s))))

    goes : Told (first_of form (Some (line_at s at))) (first v) s at false next
    unfolding first_of fields_from end_from next_line
    goes =
        record {
          reads = rw (line_on, field_of t.word (line_at s next) no_space, t.reads, rest_of t.word (line_at s next) no_space);
          same = omega (arith, index_on, t.near, long 32 t);
          near = t.near;
        }

  module _ (t : Stands form s at v 10 next) where
    index_end : index_of 10 (drop at s) ≡ length t.word + 0
    unfolding index_of
    index_end = rw t.is (index_past 10 t.word (10 ∷ drop next s) (clean.no_end t.word v t.reads))

    line_end : line_at s at ≡ t.word
    unfolding line_at
    line_end = rw (index_end, t.is) (take-append-add t.word (10 ∷ drop next s) 0 ∙ append-nil t.word)

    ends : Told (first_of form (Some (line_at s at))) (first v) s at true next
    unfolding first_of field rest goes_on fields_from end_from next_line
    ends =
        record {
          reads = rw (line_end, index_none 32 t.word (clean.no_space t.word v t.reads), take-length t.word, t.reads, le-ltb (length t.word) (length t.word) (omega arith));
          same = omega (arith, index_end, t.near, long 10 t);
          near = t.near;
        }

  told : (ended : Bool) → Stands form s at v (stop_of ended) next → Told (first_of form (Some (line_at s at))) (first v) s at ended next
  unfolding stop_of
  told true t = ends t
  told false t = goes t

-- ---- what an answer tells

module _ (form : List ℕ → Option ℤ) (clean : Clean form) (most : ℕ) (s : List ℕ) (at : ℕ) (ended : Bool) where
  pub value_told : (stop : ℕ) (r : Option (ℤ × ℕ)) → stop ≡ stop_of ended → FieldAt form most s at stop r → ValueAt form s at ended r
  unfolding FieldAt ValueAt
  value_told stop (Some (v, next)) e t = told form clean s at v next ended (rw e at t.0)
  value_told stop None e t = tt

  pub field_told : (r : Option (ℤ × ℕ)) → FieldAt form most s at (stop_of ended) r → (v : ℤ) (next : ℕ) → r ≡ Some (v, next)
      → Told (first_of form (Some (line_at s at))) (first v) s at ended next × (next ≤ at + most)
  unfolding FieldAt
  field_told r t v next e = let k = subst (FieldAt form most s at (stop_of ended)) e t in (told form clean s at v next ended k.0, k.1)

pub value_of : (form : List ℕ → Option ℤ) (s : List ℕ) (at : ℕ) (ended : Bool) (r : Option (ℤ × ℕ)) → ValueAt form s at ended r → (v : ℤ) (next : ℕ) → r ≡ Some (v, next)
    → Told (first_of form (Some (line_at s at))) (first v) s at ended next
unfolding ValueAt
value_of form s at ended r t v next e = subst (ValueAt form s at ended) e t
