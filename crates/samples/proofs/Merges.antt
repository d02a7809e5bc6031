-- What merging comes to on small traces: the definitions, run from the bytes of the traces to those of the report.
use mathlib.Core.Path.{refl}
use Rattle.paper.specs.Tests.{one_of}
use Rattle.paper.specs.Numbers.{number_of}
use Rattle.paper.specs.Forms.{is_digit, digits_from, places_from, unled, has_minus, signed, behind_sign, at_most, whole_size, whole_of, time_size, time_of}
use Rattle.paper.specs.Events.{listed_kind, in_ranges, negative, standing_of, is_statistics, standing_for}
use Rattle.paper.specs.Line.{field, after, goes_on, rest, fields_above, first_of, count_of, place_of, six_of, head_of, good_end, unknown, step_over, unlisted, values_of, as_wholes, as_others, described, data_of, values_in, placed, misplaced, part_of, message_of, lacking, role_of, with_role, with_data, on_place, listed_line, sorted, begun, line_of}
use Rattle.paper.specs.Columns.{column_of, column_in}
use Rattle.paper.specs.Reading.{before, lines_of, start, checked, with_listed, with_passed, on_line, read_from, read_of}
use Rattle.octets.specs.Octets.{index_of}
use Rattle.paper.specs.Text.{bytes_of}
use Rattle.paper.specs.Answer.{choice_of, longest}
use Rattle.paper.specs.Merging.{stamp_of, merged_lines, bytes_in, merged_bytes, most_alone, stop_alone, holds_on, share_one, on_readings, on_second_trace, on_first_trace, both_of, unmerged, joined, on_merged, on_both, on_heard, join, which_of, merged_of}
use Rattle.report.specs.Report.{shown, named, numbered}
use Rattle.report.specs.Replied.{unmerged_shown, tally_shown, merged_shown, replied_shown}
use Rattle.samples.specs.Merges.{merges, Merged}

pub merges_hold : Merged merges
unfolding merges Merged replied_shown unmerged_shown tally_shown merged_shown numbered named shown one_of number_of is_digit digits_from places_from unled has_minus signed behind_sign at_most whole_size whole_of time_size time_of listed_kind in_ranges negative standing_of is_statistics standing_for field after goes_on rest fields_above first_of count_of place_of six_of head_of good_end unknown step_over unlisted values_of as_wholes as_others described data_of values_in placed misplaced part_of message_of lacking role_of with_role with_data on_place listed_line sorted begun line_of column_of column_in before lines_of start checked with_listed with_passed on_line read_from read_of index_of bytes_of choice_of longest stamp_of merged_lines bytes_in merged_bytes most_alone stop_alone holds_on share_one on_readings on_second_trace on_first_trace both_of unmerged joined on_merged on_both on_heard join which_of merged_of
merges_hold = (refl, refl, (refl, refl, (refl, refl, (refl, refl, (refl, refl, (refl, refl, (refl, refl, (refl, refl, (refl, refl, (refl, refl, (refl, refl, tt)))))))))))
