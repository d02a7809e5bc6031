-- Document 01: "Event types are sorted by range", the table, and the listed record types; with the events of change request 2, those of
-- sends and receives, and the record types of change request 8. A negative number -(n + 1) is `negsuc n`, and -n is `minus n`.
use Rattle.std.specs.Prelude.{ℕ, suc, Bool, false, cond, ◌&&◌, ◌||◌, List, [], ◌∷◌, ℤ, pos, negsuc, leb}
use Rattle.paper.specs.Tests.{minus, one_of}
use Rattle.paper.specs.declared.Standing.{Standing}
use Rattle.paper.specs.declared.Standing.TheVariants.{Listed, Message, NotHandled, Unlisted}

-- "Listed record types: -2 mark, -3 entry, -4 exit, 0 user data." "Record types -101 (times), -102 (counts) and -103 (volumes) become
-- listed"
abbrev pub listed_kinds : List ℤ
listed_kinds = minus 2 ∷ minus 3 ∷ minus 4 ∷ pos 0 ∷ minus 101 ∷ minus 102 ∷ minus 103 ∷ []

unfoldable pub listed_kind : ℤ → Bool
listed_kind k = one_of listed_kinds k

abbrev pub statistics_kinds : List ℤ
statistics_kinds = minus 101 ∷ minus 102 ∷ minus 103 ∷ []

unfoldable pub is_statistics : ℤ → Bool
is_statistics k = one_of statistics_kinds k

-- ---- the table

-- n is in one of the ranges, ends included
unfoldable pub in_ranges : List (ℕ × ℕ) → ℕ → Bool
in_ranges [] n = false
in_ranges (r ∷ rs) n = (leb r.0 n && leb n r.1) || in_ranges rs n

-- the table's rows of negative event types, without their minus. "List the events of sendbegin0, sendstatus0, sendend0, recvbegin0,
-- recvstatus0 and recvend0 in source document 001, Table 4": -27, -28 and -29, -30 and -31; -57, -58 and -59, -60 and -61
abbrev pub messages : List (ℕ × ℕ)
messages = (21, 21) ∷ (27, 31) ∷ (51, 52) ∷ (57, 61) ∷ []

-- "These types leave refusal 8; all others stay in it."
abbrev pub not_handled : List (ℕ × ℕ)
not_handled = (22, 26) ∷ (32, 50) ∷ (53, 56) ∷ (62, 80) ∷ []

abbrev pub listed_events : List (ℕ × ℕ)
listed_events =
    (11, 12) ∷ (201, 202) ∷ (221, 221) ∷ (251, 251) ∷ (401, 402) ∷ (501, 503) ∷ (601, 603) ∷ (901, 904) ∷ (911, 914) ∷ []

-- the standing of the event type -n: "every other negative" is unlisted
unfoldable pub negative : ℕ → Standing
negative n =
    cond (in_ranges messages n) Message (cond (in_ranges not_handled n) NotHandled (cond (in_ranges listed_events n) Listed Unlisted))

-- "0 to 999,999,999: listed, user event". No good field is above that; a larger number would be in no row
unfoldable pub standing_of : ℤ → Standing
standing_of (pos n) = cond (leb n 999999999) Listed Unlisted
standing_of (negsuc n) = negative (suc n)

-- of a listed record by its record type and its event type. Of statistics: "Their event field may be any whole number: 8 and the event part
-- of 7 aren't asked."
unfoldable pub standing_for : ℤ → ℤ → Standing
standing_for kind event = cond (is_statistics kind) Listed (standing_of event)

-- ---- sends and receives

-- "A send is an entry record of -21", "A send is also sendbegin0's entry", which is -27
abbrev pub send_events : List ℤ
send_events = minus 21 ∷ minus 27 ∷ []

-- "A receive is an exit record of -51 or -52", "a receive is also each exit of recvstatus0 or recvend0 that found it complete": -58, and
-- -60 or -61. -57 only posts the request, and -59 finds it not complete
abbrev pub receive_events : List ℤ
receive_events = minus 51 ∷ minus 52 ∷ minus 58 ∷ minus 60 ∷ minus 61 ∷ []
