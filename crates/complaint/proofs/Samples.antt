-- Complaints, computed from the definition.
use mathlib.Core.Path.{◌≡◌, refl}
use mathlib.Core.List.{[], ◌∷◌}
use Rattle.paper.specs.Text.{bytes_of}
use Rattle.named.specs.Values.{written}
use Rattle.named.specs.declared.Name.TheVariants.{Table}
use Rattle.flags.specs.Plan.{bad, missing}
use Rattle.complaint.specs.Complaint.{visible, all_visible, word_shown, line_of, complaint_of}

-- a bad word with a line feed and another byte that is no plain sign in it
pub complaint_sample : (complaint_of (bad (45 ∷ 45 ∷ 120 ∷ 10 ∷ 200 ∷ 121 ∷ [])) ≡ bytes_of "bad argument --x??y\n") × (complaint_of (missing Table) ≡ bytes_of "missing argument --table\n")
unfolding complaint_of line_of word_shown all_visible visible written bytes_of
complaint_sample = (refl, refl)
