-- Two traces that are read to their ends: the choice that is named, and the merged bytes of the two.
use Rattle.std.specs.Prelude.{Some}
use Prim.Native.Nat.{◌+◌}
use mathlib.Core.Path.{◌≡◌}
use lib.ListN.{length}
use Rattle.paper.specs.Reading.{lines_of}
use Rattle.paper.specs.Answer.{choice_of}
use Rattle.paper.specs.Merging.{merged_bytes, Merging}
use Rattle.reading.specs.Joined.{AllEnded}
use Rattle.reading.specs.Mixed.{Mixed}
use Rattle.merges.specs.Parts.{Both}
use Rattle.merges.proofs.Lines.{merged_lines_lem, merged_length}
use Rattle.merges.proofs.Alone.{chosen_alone, alone_ended}

module _ (i : Merging) (both : Both i) where
  pub both_chosen : choice_of i.choice ≡ Some both.choice
  both_chosen = chosen_alone i.choice i.first both.choice both.reads_first.begun.chosen

  first_ended : AllEnded (lines_of i.first)
  first_ended = alone_ended i.choice i.first both.choice both.reads_first

  second_ended : AllEnded (lines_of i.second)
  second_ended = alone_ended i.choice i.second both.choice both.reads_second

  pub both_lines : Mixed (lines_of i.first) (lines_of i.second) (lines_of (merged_bytes i.first i.second))
  both_lines = merged_lines_lem i.first i.second first_ended second_ended

  pub both_length : length (merged_bytes i.first i.second) ≡ length i.first + length i.second
  both_length = merged_length i.first i.second first_ended second_ended
