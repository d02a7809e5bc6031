-- The places of the sends, and what finding them leaves in the two lent slices.
use Rattle.std.specs.Prelude.{ℕ, List, Bool, cond, ◌&&◌, length, replicate, eqb, ltb, unwrap_or}
use Rattle.paper.specs.Clock.{listed}
use Rattle.paper.specs.Matching.{send_of}
use Rattle.paper.specs.declared.Entry.{Entry}
use Rattle.store.specs.Layout.{too_many, entries_in}

-- of each entry the place of its send, and the number of entries where there is none
unfoldable pub places_of : List Entry → List ℕ
places_of es = listed (length es) (λ i. unwrap_or (send_of es i) (length es))

pub record Places : Type 0 where
  pub sends : List ℕ
  pub link : List ℕ

abbrev pub places : (sends link : List ℕ) → Places
places sends link = record { sends = sends; link = link }

-- as many links as places, and not too many
unfoldable pub places_fit : (sends link : List ℕ) → Bool
places_fit sends link = eqb (length link) (length sends) && ltb (length sends) too_many

-- the links come back cleared; where the two do not fit, nothing is touched
unfoldable pub found : List ℕ → List ℕ → List ℕ → Places
found store sends link =
    cond (places_fit sends link) (places (places_of (entries_in store (length sends))) (replicate (length sends) 0)) (places sends link)
