-- P1 to P10 hold, and those of the levels, of posted messages, of short receives, of columns, of a merged trace, of statistics and of kept gaps: the
-- definitions, run from the bytes of the trace to those of the report.
use mathlib.Core.Path.{refl}
use Rattle.paper.specs.Tests.{one_of, all_up_to}
use Rattle.paper.specs.Numbers.{number_of}
use Rattle.paper.specs.Forms.{is_digit, digits_from, places_from, unled, has_minus, signed, behind_sign, at_most, whole_size, whole_of, time_size, time_of, text_of, times_quoted, numbers_quoted}
use Rattle.paper.specs.Events.{listed_kind, in_ranges, negative, standing_of, is_statistics, standing_for}
use Rattle.paper.specs.Line.{field, after, goes_on, rest, fields_above, first_of, count_of, place_of, six_of, head_of, good_end, unknown, step_over, unlisted, values_of, as_wholes, as_others, described, data_of, pairs_of, quoted_for, told_for, pairs_for, as_pairs, values_in, placed, misplaced, part_of, message_of, lacking, role_of, with_role, with_data, on_place, listed_line, sorted, begun, line_of}
use Rattle.paper.specs.Columns.{column_of, column_in}
use Rattle.paper.specs.Reading.{before, lines_of, start, checked, with_listed, with_passed, on_line, read_from, read_of}
use Rattle.paper.specs.Levels.{is_three, counts, expected, agrees, off_at, levels_from, levels_of}
use Rattle.paper.specs.Statistics.{is_of, sum_if, length_in, lengths_if, count_differs, spent, time_differs, volume_kind, volume_differs, is_listed, differs, any_differs, is_compared, pairs_behind, pairs_in, line_in, line_differs, compared_from, statistics_of}
use Rattle.paper.specs.Gaps.{gap_of}
use Rattle.paper.specs.Matching.{sends_under, receives_under, count_if, send_place, send_for, entry_at, send_of, length_sent, call_of, call_for, matched_from, matched_of, is_send, is_receive, matched_count, unreceived_count, last_of, latency_for, gap_from, waits_of}
use Rattle.paper.specs.Clock.{next, same, within_limit, settled_from, settle}
use Rattle.paper.specs.Answer.{judge, reach, conclude, refused, choice_of, heard, most, longest, right_sizes, low_latencies, verdict_of, accepted, written, on_written, on_settled, on_matched, on_statistics, on_levels, on_read, on_choice}
use Rattle.paper.specs.Merging.{stamp_of, merged_lines, bytes_in, merged_bytes}
use Rattle.octets.specs.Octets.{index_of}
use Rattle.paper.specs.Text.{bytes_of, is_same}
use Rattle.report.specs.Report.{shown, named, numbered, verdict_shown, accepted_shown, refused_shown, report_of}
use Rattle.samples.specs.Samples.{samples, Hold}

pub samples_hold : Hold samples
unfolding samples Hold report_of accepted_shown refused_shown verdict_shown numbered named shown places_from bytes_of index_of number_of is_digit digits_from unled has_minus signed behind_sign at_most whole_size whole_of time_size time_of text_of times_quoted numbers_quoted is_same one_of listed_kind in_ranges negative standing_of is_statistics standing_for field after goes_on rest fields_above first_of count_of place_of six_of head_of good_end unknown step_over unlisted values_of as_wholes as_others described data_of pairs_of quoted_for told_for pairs_for as_pairs values_in placed misplaced part_of message_of lacking role_of with_role with_data on_place listed_line sorted begun line_of column_of column_in before lines_of start checked with_listed with_passed on_line read_from read_of sends_under receives_under count_if send_place send_for entry_at send_of length_sent call_of call_for matched_from matched_of is_send is_receive matched_count unreceived_count last_of latency_for gap_of gap_from waits_of is_three counts expected agrees off_at levels_from levels_of is_of sum_if length_in lengths_if count_differs spent time_differs volume_kind volume_differs is_listed differs any_differs is_compared pairs_behind pairs_in line_in line_differs compared_from statistics_of next same within_limit settled_from settle judge reach conclude most longest heard refused choice_of right_sizes low_latencies all_up_to verdict_of accepted written on_written on_settled on_matched on_statistics on_levels on_read on_choice stamp_of merged_lines bytes_in merged_bytes
samples_hold = (refl, refl, (refl, refl, (refl, refl, (refl, refl, (refl, refl, (refl, refl, (refl, refl, (refl, refl, (refl, refl, (refl, refl, (refl, refl, (refl, refl, (refl, refl, (refl, refl, (refl, refl, (refl, refl, (refl, refl, (refl, refl, (refl, refl, (refl, refl, (refl, refl, (refl, refl, (refl, refl, (refl, refl, (refl, refl, (refl, refl, (refl, refl, (refl, refl, (refl, refl, (refl, refl, (refl, refl, (refl, refl, (refl, refl, (refl, refl, (refl, refl, (refl, refl, (refl, refl, (refl, refl, (refl, refl, (refl, refl, (refl, refl, (refl, refl, (refl, refl, (refl, refl, (refl, refl, (refl, refl, (refl, refl, (refl, refl, (refl, refl, (refl, refl, (refl, refl, (refl, refl, (refl, refl, (refl, refl, (refl, refl, (refl, refl, (refl, refl, (refl, refl, (refl, refl, (refl, refl, (refl, refl, (refl, refl, (refl, refl, (refl, refl, (refl, refl, (refl, refl, (refl, refl, (refl, refl, (refl, refl, (refl, refl, (refl, refl, (refl, refl, (refl, refl, (refl, refl, (refl, refl, (refl, refl, (refl, refl, (refl, refl, (refl, refl, (refl, refl, (refl, refl, (refl, refl, (refl, refl, (refl, refl, (refl, refl, (refl, refl, (refl, refl, (refl, refl, (refl, refl, (refl, refl, (refl, refl, (refl, refl, (refl, refl, (refl, refl, tt))))))))))))))))))))))))))))))))))))))))))))))))))))))))))))))))))))))))))))))))))))))))))))))
