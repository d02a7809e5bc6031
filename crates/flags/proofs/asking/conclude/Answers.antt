-- A law of `concluded` for each way out.
use Rattle.flags.proofs.Ends.{no_choice, no_trace, no_table, no_levels, no_statistics, no_share, all_given}
use Rattle.flags.proofs.asking.conclude.Goals as goal

pub returns-in_default : goal.returns-in_default
returns-in_default c = no_choice _ _ c.in_default.is

pub returns-in_default-trace : goal.returns-in_default-trace
returns-in_default-trace c = no_trace _ _ c.in-Some.is c.in_default-trace.is

pub returns-in_default-table : goal.returns-in_default-table
returns-in_default-table c = no_table _ _ c.in-Some.is c.in-Some-trace.is c.in_default-table.is

pub returns-in_default-levels : goal.returns-in_default-levels
returns-in_default-levels c = no_levels _ _ c.in-Some.is c.in-Some-trace.is c.in-Some-table.is c.in_default-levels.is

pub returns-in_default-statistics : goal.returns-in_default-statistics
returns-in_default-statistics c = no_statistics _ _ c.in-Some.is c.in-Some-trace.is c.in-Some-table.is c.in-Some-levels.is c.in_default-statistics.is

pub returns-in_default-share : goal.returns-in_default-share
returns-in_default-share c = no_share _ _ c.in-Some.is c.in-Some-trace.is c.in-Some-table.is c.in-Some-levels.is c.in-Some-statistics.is c.in_default-share.is

pub returns : goal.returns
returns c =
    all_given _ _ c.in-Some.is c.in-Some-trace.is c.in-Some-table.is c.in-Some-levels.is c.in-Some-statistics.is c.in-Some-share.is c.requires
    (rw (← c.cut.ensures, ← c.cut-2.ensures, ← c.cut-3.ensures, ← c.cut-4.ensures, ← c.choice_of.ensures, ← c.levels_of.ensures, ← c.switch_of.ensures, ← c.share_of.ensures) c.asked_of-asked.ensures)
