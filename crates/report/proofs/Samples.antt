-- The refusal that the fifth change request writes out, and the lines that a merging has of its own. Document 01's whole report, P1's,
-- stands under the one claim in crate samples.
use mathlib.Core.Path.{◌≡◌, refl}
use mathlib.Core.List.{◌++◌}
use Rattle.paper.specs.Text.{bytes_of}
use Rattle.paper.specs.Forms.{places_from}
use Rattle.report.specs.Report.{shown, named, numbered, refused_shown}
use Rattle.report.specs.Replied.{unmerged_shown, tally_shown, merged_shown}

-- "The report line becomes "refused 5 line 812 column 31""
pub refusal : refused_shown 5 812 31 ≡ bytes_of "refused 5 line 812 column 31\n"
unfolding refused_shown numbered named shown places_from bytes_of
refusal = refl

-- "each says which trace it means"
pub unmerged : unmerged_shown (record { number = 9; which = 2; line = 7; column = 15; written = 0 }) ≡ bytes_of "refused 9 trace 2 line 7 column 15\n"
unfolding unmerged_shown numbered named shown places_from bytes_of
unmerged = refl

pub merged : merged_shown
    (record { lines = 12; written = 240; first = record { listed = 5; passed = 0 }; second = record { listed = 6; passed = 1 } })
    ≡ bytes_of "merged 12 lines\n" ++ (bytes_of "trace 1 listed 5 passed 0\n" ++ bytes_of "trace 2 listed 6 passed 1\n")
unfolding merged_shown tally_shown numbered named shown places_from bytes_of
merged = refl
