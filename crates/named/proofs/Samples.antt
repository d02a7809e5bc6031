-- Lines taken apart, computed from the definition. 32 is the space.
use mathlib.Core.Path.{◌≡◌, refl}
use mathlib.Core.List.{[], ◌∷◌}
use Rattle.paper.specs.Text.{bytes_of}
use Rattle.named.specs.Words.{before, words_of}

pub words_sample : (words_of 32 (bytes_of "a b") ≡ bytes_of "a" ∷ bytes_of "b" ∷ [])
    × (words_of 32 (bytes_of "a b ") ≡ bytes_of "a" ∷ bytes_of "b" ∷ [])
    × (words_of 32 [] ≡ [])
    × (words_of 32 (bytes_of " ") ≡ [] ∷ [])
    × (words_of 32 (bytes_of "a  b") ≡ bytes_of "a" ∷ [] ∷ bytes_of "b" ∷ [])
unfolding bytes_of before words_of
words_sample = (refl, refl, refl, refl, refl)
