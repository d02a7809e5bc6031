-- What is said, by the tests told; and that what the system told leaves one thing to say.
use Rattle.std.specs.Prelude.{Option, Some, None, Ok, Err}
use Prim.Native.Nat.{ℕ, ◌≤◌, ◌<◌}
use mathlib.Core.Path.{◌≡◌, refl, sym, ◌∙◌}
use mathlib.Core.Bool.{Bool, true, false}
use mathlib.Core.List.{List}
use lib.ListN.{length}
use borrow.Author.Tests.{lt-ltb, le-ltb}
use Rattle.text.specs.Text.{Made, made_of}
use Rattle.text.specs.declared.Unmade.{Unmade}
use Rattle.report.specs.declared.Told.{Told}
use Rattle.files.specs.Told.{ByStored}
use Rattle.tables.specs.Program.{unmade_told, on_made, on_text, on_file, told_of, ByFile}

-- ---- the text

pub is_whole : (text : List ℕ) {made : Made} {whole : Unit} {told : Told} → made ≡ made_of text → made ≡ Ok whole → ByStored (on_made (Ok tt)) told → ByStored (on_made (made_of text)) told
unfolding on_made
is_whole text m e by = record { stored = by.stored; says = by.says ∙ rw (← m, e) (go by.stored) }
  where
    go : {whole : Unit} (stored : Bool) → on_made (Ok tt) stored ≡ on_made (Ok whole) stored
    go true = refl
    go false = refl

pub is_unmade : (text : List ℕ) {made : Made} {unmade : Unmade} {told : Told} → made ≡ made_of text → made ≡ Err unmade → told ≡ unmade_told unmade
    → ByStored (on_made (made_of text)) told
unfolding on_made
is_unmade text m e t = record { stored = true; says = t ∙ rw (← m, e) }

module _ {text : Option (List ℕ)} where
  pub not_read : text ≡ None → ByStored (on_file text) Told.CannotRead
  unfolding on_file
  not_read e = record { stored = true; says = rw e }

  module _ (bytes : List ℕ) (read : text ≡ Some bytes) where
    pub too_long : 262144 < length bytes → ByStored (on_file text) Told.TooLong
    unfolding on_file on_text
    too_long h = record { stored = true; says = rw (read, lt-ltb 262144 (length bytes) h) }

    pub reads : {told : Told} → length bytes ≤ 262144 → ByStored (on_made (made_of bytes)) told → ByStored (on_file text) told
    unfolding on_file on_text
    reads h by = record { stored = by.stored; says = by.says ∙ rw (read, le-ltb 262144 (length bytes) h) }

-- ---- the program

module _ {count : ℕ} where
  pub many : 3 < count → ByFile (told_of count) Told.TooMany
  unfolding told_of
  many h = record { text = None; rest = record { stored = true; says = rw (lt-ltb 3 count h) } }

  module _ (few : count ≤ 3) where
    pub unnamed : count < 2 → ByFile (told_of count) Told.CannotRead
    unfolding told_of
    unnamed h = record { text = None; rest = record { stored = true; says = rw (le-ltb 3 count few, lt-ltb count 2 h) } }

    pub named : {told : Told} → 2 ≤ count → ByFile on_file told → ByFile (told_of count) told
    unfolding told_of
    named h by = record { text = by.text; rest = record { stored = by.rest.stored; says = by.rest.says ∙ rw (le-ltb 3 count few, le-ltb count 2 h) } }

-- ---- one answer

-- whoever is told the same says the same
pub one_told : {by : Option (List ℕ) → Bool → Told} {a b : Told} (x : ByFile by a) (y : ByFile by b) → x.text ≡ y.text → x.rest.stored ≡ y.rest.stored → a ≡ b
one_told x y t s = x.rest.says ∙ rw (t, s) (sym y.rest.says)
