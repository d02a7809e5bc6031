-- The messages and the chains of small traces: the definitions, run from the bytes of the trace to the list.
use mathlib.Core.Path.{refl}
use Rattle.paper.specs.Tests.{one_of, all_up_to}
use Rattle.paper.specs.Numbers.{number_of}
use Rattle.paper.specs.Forms.{is_digit, digits_from, places_from, unled, has_minus, signed, behind_sign, at_most, whole_size, whole_of, time_size, time_of}
use Rattle.paper.specs.Events.{listed_kind, in_ranges, negative, standing_of, is_statistics, standing_for}
use Rattle.paper.specs.Line.{field, after, goes_on, rest, fields_above, first_of, count_of, place_of, six_of, head_of, good_end, unknown, step_over, unlisted, values_of, as_wholes, as_others, described, data_of, values_in, placed, misplaced, part_of, message_of, lacking, role_of, with_role, with_data, on_place, listed_line, sorted, begun, line_of}
use Rattle.paper.specs.Columns.{column_of, column_in}
use Rattle.paper.specs.Reading.{before, lines_of, start, checked, with_listed, with_passed, on_line, read_from, read_of}
use Rattle.paper.specs.Levels.{is_three, counts, expected, agrees, off_at, levels_from, levels_of}
use Rattle.paper.specs.Statistics.{statistics_of}
use Rattle.paper.specs.Gaps.{gap_of}
use Rattle.paper.specs.Matching.{sends_under, receives_under, count_if, send_place, send_for, entry_at, send_of, length_sent, call_of, call_for, matched_from, matched_of, is_send, is_receive, matched_count, unreceived_count, last_of, latency_for, gap_from, waits_of}
use Rattle.paper.specs.Clock.{next, same, within_limit, settled_from, settle}
use Rattle.paper.specs.Answer.{judge, reach, conclude, refused, choice_of, heard, most, longest, right_sizes, low_latencies, verdict_of, accepted, written, on_written, on_settled, on_matched, on_statistics, on_levels, on_read, on_choice}
use Rattle.octets.specs.Octets.{index_of}
use Rattle.paper.specs.Text.{bytes_of}
use Rattle.paper.specs.Filling.{most_lent, judged, untouched, filled_with, on_list, on_reached, fill}
use Rattle.paper.specs.Messages.{message_at, messages_to, messages_of, messages}
use Rattle.paper.specs.Chain.{exactly, steps_of, fewer, onto, chain_in, chain_of, chain}
use Rattle.paper.specs.Chain as chains
use Rattle.samples.specs.Lists.{messaged, Messages, chained, Chains}

pub messages_hold : Messages messaged
unfolding messaged Messages most_lent judged untouched filled_with on_list on_reached fill message_at messages_to messages_of messages exactly steps_of fewer onto chain_in chain_of chain chains.on_place bytes_of index_of number_of is_digit digits_from places_from unled has_minus signed behind_sign at_most whole_size whole_of time_size time_of one_of listed_kind in_ranges negative standing_of is_statistics standing_for field after goes_on rest fields_above first_of count_of place_of six_of head_of good_end unknown step_over unlisted values_of as_wholes as_others described data_of values_in placed misplaced part_of message_of lacking role_of with_role with_data on_place listed_line sorted begun line_of column_of column_in before lines_of start checked with_listed with_passed on_line read_from read_of sends_under receives_under count_if send_place send_for entry_at send_of length_sent call_of call_for matched_from matched_of is_send is_receive matched_count unreceived_count last_of latency_for gap_of gap_from waits_of is_three counts expected agrees off_at levels_from levels_of statistics_of next same within_limit settled_from settle judge reach conclude most longest heard refused choice_of right_sizes low_latencies all_up_to verdict_of accepted written on_written on_settled on_matched on_statistics on_levels on_read on_choice
messages_hold = (refl, (refl, (refl, (refl, (refl, (refl, (refl, (refl, (refl, (refl, tt))))))))))

pub chains_hold : Chains chained
unfolding chained Chains most_lent judged untouched filled_with on_list on_reached fill message_at messages_to messages_of messages exactly steps_of fewer onto chain_in chain_of chain chains.on_place bytes_of index_of number_of is_digit digits_from places_from unled has_minus signed behind_sign at_most whole_size whole_of time_size time_of one_of listed_kind in_ranges negative standing_of is_statistics standing_for field after goes_on rest fields_above first_of count_of place_of six_of head_of good_end unknown step_over unlisted values_of as_wholes as_others described data_of values_in placed misplaced part_of message_of lacking role_of with_role with_data on_place listed_line sorted begun line_of column_of column_in before lines_of start checked with_listed with_passed on_line read_from read_of sends_under receives_under count_if send_place send_for entry_at send_of length_sent call_of call_for matched_from matched_of is_send is_receive matched_count unreceived_count last_of latency_for gap_of gap_from waits_of is_three counts expected agrees off_at levels_from levels_of statistics_of next same within_limit settled_from settle judge reach conclude most longest heard refused choice_of right_sizes low_latencies all_up_to verdict_of accepted written on_written on_settled on_matched on_statistics on_levels on_read on_choice
chains_hold = (refl, (refl, (refl, (refl, (refl, (refl, (refl, (refl, (refl, (refl, (refl, (refl, (refl, (refl, (refl, (refl, (refl, tt)))))))))))))))))
