-- Document 01, "Sample traces": those marked P, each a call from the trace's bytes with its whole outcome and the program's whole
-- report of it; and in the same way what the first change request and its reading say of the tracing levels, the second of messages
-- that are posted and finish later, the fourth of receives that take fewer bytes than were sent, the fifth of columns, the sixth of a
-- merged trace, the eighth of statistics records, and the ninth of the gaps that are kept.
use Rattle.std.specs.Prelude.{ℕ, ◌+◌, ◌*◌, ◌≡◌, false, List, [], ◌∷◌, ◌++◌, length, take, drop, set, replicate, ℤ, pos, negsuc}
use Prim.Native.String.{String}
use Rattle.paper.specs.Answer.{Inputs, Outcome, judge}
use Rattle.paper.specs.Merging.{merged_bytes}
use Rattle.paper.specs.Text.{bytes_of}
use Rattle.paper.specs.declared.Asked.{Asked}
use Rattle.report.specs.Report.{report_of}

-- ---- the traces

abbrev pub trace_a : List String
trace_a =
    "-3 -21 0.000010 0 0 3 2 8 1 1\n"
    ∷ "-4 -21 0.000012 0 0 0\n"
    ∷ "-4 -52 0.000009 1 0 3 2 8 1 0\n"
    ∷ "-3 -21 0.000011 1 0 3 2 8 2 0\n"
    ∷ "-4 -51 0.000013 0 0 3 2 8 2 1\n"
    ∷ []

abbrev pub trace_b : List String
trace_b =
    "-4 -52 0.000001 0 0 3 2 8 1 1\n"
    ∷ "-3 -21 0.000002 0 0 3 2 8 1 1\n"
    ∷ "-4 -52 0.000003 1 0 3 2 8 1 0\n"
    ∷ "-3 -21 0.000004 1 0 3 2 8 1 0\n"
    ∷ []

-- trace A as its two nodes write it
abbrev pub node0 : List String
node0 = "-3 -21 0.000010 0 0 3 2 8 1 1\n" ∷ "-4 -21 0.000012 0 0 0\n" ∷ "-4 -51 0.000013 0 0 3 2 8 2 1\n" ∷ []

abbrev pub node1 : List String
node1 = "-4 -52 0.000009 1 0 3 2 8 1 0\n" ∷ "-3 -21 0.000011 1 0 3 2 8 2 0\n" ∷ []

-- marks of processor 0 that tell the levels 1 1 1, and other ones
abbrev good_mark : String
good_mark = "-2 -904 0.000000 0 0 3 2 1 1 1\n"

abbrev bad_mark : String
bad_mark = "-2 -904 0.000000 0 0 3 2 1 1 2\n"

-- records that are no marks, of processors 0 and 1
abbrev pub entry0 : String
entry0 = "-3 5 0.000000 0 0 0\n"

abbrev pub entry1 : String
entry1 = "-3 5 0.000000 1 0 0\n"

-- trace A with both messages posted and finished later, and with one end of each posted
abbrev posted_a : List String
posted_a =
    "-3 -27 0.000010 0 0 3 2 8 1 1\n"
    ∷ "-4 -27 0.000012 0 0 1 2 1\n"
    ∷ "-4 -60 0.000009 1 0 3 2 8 1 0\n"
    ∷ "-3 -27 0.000011 1 0 3 2 8 2 0\n"
    ∷ "-4 -61 0.000013 0 0 3 2 8 2 1\n"
    ∷ []

abbrev mixed_a : List String
mixed_a =
    "-3 -27 0.000010 0 0 3 2 8 1 1\n"
    ∷ "-4 -27 0.000012 0 0 1 2 1\n"
    ∷ "-4 -52 0.000009 1 0 3 2 8 1 0\n"
    ∷ "-3 -21 0.000011 1 0 3 2 8 2 0\n"
    ∷ "-4 -58 0.000013 0 0 3 2 8 2 1\n"
    ∷ []

-- what only posts, finds not complete or ends a send, and a mark, each with the data of a message
abbrev no_messages : List String
no_messages =
    "-4 -27 0.000000 0 0 3 2 8 1 0\n"
    ∷ "-4 -57 0.000000 0 0 3 2 8 1 0\n"
    ∷ "-4 -59 0.000000 0 0 3 2 8 1 0\n"
    ∷ "-3 -31 0.000000 0 0 3 2 8 1 0\n"
    ∷ "-2 -61 0.000000 0 0 3 2 8 1 0\n"
    ∷ []

-- two messages of one type, of 16 and of 8 bytes, received by two events
abbrev two_events : List String
two_events =
    "-3 -21 0.000001 0 0 3 2 16 5 1\n"
    ∷ "-3 -21 0.000002 0 0 3 2 8 5 1\n"
    ∷ "-4 -51 0.000003 1 0 3 2 16 5 0\n"
    ∷ "-4 -60 0.000004 1 0 3 2 16 5 0\n"
    ∷ []

-- trace A with this for the receive of the 8 bytes that processor 0 sends
abbrev received_a : String → List String
received_a receive = take 2 trace_a ++ (receive ∷ drop 3 trace_a)

-- sends of 8 and of 16 bytes, of which 16 and 8 are received
abbrev other_pairing : List String
other_pairing =
    "-3 -21 0.000001 0 0 3 2 8 5 1\n"
    ∷ "-3 -21 0.000002 0 0 3 2 16 5 1\n"
    ∷ "-4 -52 0.000003 1 0 3 2 16 5 0\n"
    ∷ "-4 -52 0.000004 1 0 3 2 8 5 0\n"
    ∷ []

-- an entry and a mark of event 5 on processor 0, an entry on another processor, an exit, and an entry behind this count of the first two
abbrev counted : String → List String
counted count =
    "-3 5 0.000010 0 0 0\n"
    ∷ "-3 5 0.000010 1 0 0\n"
    ∷ "-2 5 0.000012 0 0 0\n"
    ∷ "-4 5 0.000013 0 0 0\n"
    ∷ count
    ∷ "-3 5 0.000014 0 0 0\n"
    ∷ []

-- an entry and an exit of event 5 that are ten microseconds apart, an entry of event 6, and this behind them
abbrev timed : String → List String
timed times = "-3 5 0.000010 0 0 0\n" ∷ "-3 6 0.000011 0 0 0\n" ∷ "-4 5 0.000020 0 0 0\n" ∷ times ∷ []

-- messages of 8 and of 16 bytes by -21 and by -27, of the first of which 7 are received, and the volumes of both processors: processor 0 has
-- sent 8 bytes by -21, whatever was told of -27, and processor 1 none
abbrev volumes : List String
volumes =
    "-3 -21 0.000010 0 0 3 2 8 1 1\n"
    ∷ "-3 -27 0.000011 0 0 3 2 16 1 1\n"
    ∷ "-103 -1 0.000011 0 0 2 \"%d%d\" -21 8 -27 5\n"
    ∷ "-4 -52 0.000012 1 0 3 2 7 1 0\n"
    ∷ "-4 -60 0.000013 1 0 3 2 16 1 0\n"
    ∷ "-103 -1 0.000013 1 0 3 \"%d%d\" -52 7 -21 0 -60 5\n"
    ∷ []

-- the time of a receive that is posted at 8 and ends at this time
abbrev received : String → String → List String
received exit times = "-3 -21 0.000010 0 0 3 2 8 1 1\n" ∷ "-3 -52 0.000008 1 0 0\n" ∷ exit ∷ times ∷ []

-- a receive without a send, and a count that differs: there is no entry of -52
abbrev three_faults : List String
three_faults = "-4 -52 0.000009 1 0 3 2 8 1 0\n" ∷ "-102 -1 0.000009 1 0 1 \"%d%d\" -52 1\n" ∷ []

-- a receive that moves from 1 to 20, and behind it gaps of 1, 7 and 1
abbrev pub spaced : List String
spaced =
    "-3 -21 0.000020 0 0 3 2 8 1 1\n"
    ∷ "-4 -52 0.000001 1 0 3 2 8 1 0\n"
    ∷ "-3 5 0.000002 1 0 0\n"
    ∷ "-3 5 0.000009 1 0 0\n"
    ∷ "-3 5 0.000010 1 0 0\n"
    ∷ []

-- the same receive, and behind it this between it and a record 8 microseconds later
abbrev between : List String → List String
between more = take 2 spaced ++ (more ++ ("-3 5 0.000009 1 0 0\n" ∷ []))

abbrev pub joined : List String → List ℕ
joined [] = []
joined (l ∷ ls) = bytes_of l ++ joined ls

abbrev pub everywhere : ℕ → List ℕ
everywhere latency = replicate 4096 latency

-- 2,048 lent times, and no room: the written trace is not asked for
abbrev lent : List ℤ
lent = replicate 2048 (pos 7)

abbrev calling : List ℕ → List ℕ → Asked → Inputs
calling trace latencies asked = record { trace = trace; latencies = latencies; asked = asked; times = lent; wanted = false; room = [] }

-- "0 for off, as for document 01's samples"
abbrev given : List ℕ → List ℕ → ℕ → Inputs
given trace latencies choice =
    calling trace latencies (record { choice = choice; levels = 0; picl = pos 0; user = pos 0; trace = pos 0; statistics = 0; share = 0 })

-- a call that expects 1 1 1, with this for its fourth number
abbrev expecting : ℕ → List String → Inputs
expecting levels trace =
    calling (joined trace) (everywhere 0)
    (record { choice = 1; levels = levels; picl = pos 1; user = pos 1; trace = pos 1; statistics = 0; share = 0 })

-- a call with this for the number that switches the comparison of statistics
abbrev comparing : ℕ → List String → Inputs
comparing statistics trace =
    calling (joined trace) (everywhere 0)
    (record { choice = 1; levels = 0; picl = pos 0; user = pos 0; trace = pos 0; statistics = statistics; share = 0 })

-- a call that keeps so many thousandths of each gap
abbrev keeping : ℕ → List String → List ℕ → Inputs
keeping share trace latencies =
    calling (joined trace) latencies
    (record { choice = 1; levels = 0; picl = pos 0; user = pos 0; trace = pos 0; statistics = 0; share = share })

-- ---- the outcomes

abbrev refusal : ℕ → ℕ → ℕ → Outcome
refusal number line column =
    record {
      answer = record {
        number = number;
        line = line;
        column = column;
        verdict = 0;
        listed = 0;
        passed = 0;
        matched = 0;
        unreceived = 0;
        rounds = 0;
        written = 0;
      };
      times = lent;
      room = [];
    }

abbrev answer : (verdict matched rounds : ℕ) → List ℤ → Outcome
answer verdict matched rounds times =
    record {
      answer = record {
        number = 0;
        line = 0;
        column = 0;
        verdict = verdict;
        listed = length times;
        passed = 0;
        matched = matched;
        unreceived = 0;
        rounds = rounds;
        written = 0;
      };
      times = times ++ drop (length times) lent;
      room = [];
    }

-- a call, what it comes to, and the lines of its report
pub record Sample : Type 0 where
  pub call : Inputs
  pub comes : Outcome
  pub shows : List String

-- "The program's whole report, header and all"
abbrev report : (verdict listed matched rounds : String) → List String
report verdict listed matched rounds = verdict ∷ listed ∷ "passed 0\n" ∷ matched ∷ "unreceived 0\n" ∷ rounds ∷ []

-- a trace of these bytes, which is refused in its first line
abbrev bad_line : String → ℕ → ℕ → String → Sample
bad_line text number column shows =
    record { call = given (bytes_of text) (everywhere 0) 1; comes = refusal number 1 column; shows = shows ∷ [] }

-- ---- the list

unfoldable pub samples : List Sample
samples =
    -- P1: "times 10, 12, 15, 15, 20; rounds 3; verdict 2. The program's whole report, header and all"
    record {
      call = given (joined trace_a) (everywhere 5) 1;
      comes = answer 2 2 3 (pos 10 ∷ pos 12 ∷ pos 15 ∷ pos 15 ∷ pos 20 ∷ []);
      shows = "verdict corrected\n" ∷ "listed 5\n" ∷ "passed 0\n" ∷ "matched 2\n" ∷ "unreceived 0\n" ∷ "rounds 3\n" ∷ [];
    }
    -- P2: "its first three lines: 10, 12, 15; rounds 1"
    ∷ record {
      call = given (joined (take 3 trace_a)) (everywhere 5) 1;
      comes = answer 2 1 1 (pos 10 ∷ pos 12 ∷ pos 15 ∷ []);
      shows = report "verdict corrected\n" "listed 3\n" "matched 1\n" "rounds 1\n";
    }
    -- P3: "latencies 0: 10, 12, 10, 11, 13; rounds 1"
    ∷ record {
      call = given (joined trace_a) (everywhere 0) 1;
      comes = answer 2 2 1 (pos 10 ∷ pos 12 ∷ pos 10 ∷ pos 11 ∷ pos 13 ∷ []);
      shows = report "verdict corrected\n" "listed 5\n" "matched 2\n" "rounds 1\n";
    }
    -- P4: "line 4 removed: 13 at line 4"
    ∷ record {
      call = given (joined (take 3 trace_a ++ drop 4 trace_a)) (everywhere 5) 1;
      comes = refusal 13 4 0;
      shows = "refused 13 line 4 column 0\n" ∷ [];
    }
    -- P5: "empty trace: verdict 3, all counts 0"
    ∷ record {
      call = given [] (everywhere 5) 1;
      comes = answer 3 0 0 [];
      shows = report "verdict nothing to judge\n" "listed 0\n" "matched 0\n" "rounds 0\n";
    }
    -- P6: "trace B below, latencies 0: four times 4, rounds 3"
    ∷ record {
      call = given (joined trace_b) (everywhere 0) 1;
      comes = answer 2 2 3 (pos 4 ∷ pos 4 ∷ pos 4 ∷ pos 4 ∷ []);
      shows = report "verdict corrected\n" "listed 4\n" "matched 2\n" "rounds 3\n";
    }
    -- P7: "trace B with latency 1 from 0 to 1 only: 15"
    ∷ record {
      call = given (joined trace_b) (set (everywhere 0) (64 * 0 + 1) 1) 1;
      comes = refusal 15 0 0;
      shows = "refused 15 line 0 column 0\n" ∷ [];
    }
    -- P8: "time "-0.000000" is 6"
    ∷ record {
      call = given (bytes_of "0 0 -0.000000 0 0 0\n") (everywhere 0) 1;
      comes = refusal 6 1 5;
      shows = "refused 6 line 1 column 5\n" ∷ [];
    }
    -- P9: ""-0.000001" means -1"
    ∷ record {
      call = given (bytes_of "0 0 -0.000001 0 0 0\n") (everywhere 0) 1;
      comes = answer 3 0 0 (negsuc 0 ∷ []);
      shows = report "verdict nothing to judge\n" "listed 1\n" "matched 0\n" "rounds 0\n";
    }
    -- P10: "choice 3 is 1"
    ∷ record { call = given (joined trace_a) (everywhere 5) 3; comes = refusal 1 0 0; shows = "refused 1 line 0 column 0\n" ∷ [] }
    -- request 1: "Only a -904 mark with three data under descriptor 2 counts": one with "the expected three"
    ∷ record {
      call = expecting 1 (good_mark ∷ []);
      comes = answer 3 0 0 (pos 0 ∷ []);
      shows = report "verdict nothing to judge\n" "listed 1\n" "matched 0\n" "rounds 0\n";
    }
    -- "refuse with 17 if a processor with listed records has no such mark"
    ∷ record { call = expecting 1 (entry0 ∷ []); comes = refusal 17 1 0; shows = "refused 17 line 1 column 0\n" ∷ [] }
    -- "or its last one differs from the expected three"
    ∷ record { call = expecting 1 (good_mark ∷ bad_mark ∷ []); comes = refusal 17 2 0; shows = "refused 17 line 2 column 0\n" ∷ [] }
    -- ""its last one" is the processor's last mark that counts": one without data behind it is as if it were not there
    ∷ record {
      call = expecting 1 (good_mark ∷ "-2 -904 0.000000 0 0 0\n" ∷ []);
      comes = answer 3 0 0 (pos 0 ∷ pos 0 ∷ []);
      shows = report "verdict nothing to judge\n" "listed 2\n" "matched 0\n" "rounds 0\n";
    }
    -- "The smallest such processor decides; the line is that of its last listed record."
    ∷ record {
      call = expecting 1 (good_mark ∷ bad_mark ∷ entry0 ∷ entry1 ∷ []);
      comes = refusal 17 3 0;
      shows = "refused 17 line 3 column 0\n" ∷ [];
    }
    -- "Entry, exit and user-data records of -904 do not count."
    ∷ record {
      call = expecting 1 ("-3 -904 0.000000 0 0 3 2 1 1 1\n" ∷ []);
      comes = refusal 17 1 0;
      shows = "refused 17 line 1 column 0\n" ∷ [];
    }
    -- "17 comes before an earlier-standing 13": a receive at line 1 that has no send
    ∷ record {
      call = expecting 1 (take 1 (drop 2 trace_a) ++ (entry0 ∷ []));
      comes = refusal 17 2 0;
      shows = "refused 17 line 2 column 0\n" ∷ [];
    }
    -- "and after every bad line": here an empty one
    ∷ record { call = expecting 1 (entry0 ∷ "\n" ∷ []); comes = refusal 5 2 1; shows = "refused 5 line 2 column 1\n" ∷ [] }
    -- "An empty trace has no processor with listed records: accepted."
    ∷ record {
      call = expecting 1 [];
      comes = answer 3 0 0 [];
      shows = report "verdict nothing to judge\n" "listed 0\n" "matched 0\n" "rounds 0\n";
    }
    -- "0 for off": the same three, and no mark
    ∷ record {
      call = expecting 0 (entry0 ∷ []);
      comes = answer 3 0 0 (pos 0 ∷ []);
      shows = report "verdict nothing to judge\n" "listed 1\n" "matched 0\n" "rounds 0\n";
    }
    -- "0 for off .. or 1 for on; any other is refusal 1"
    ∷ record { call = expecting 2 (good_mark ∷ []); comes = refusal 1 0 0; shows = "refused 1 line 0 column 0\n" ∷ [] }
    -- request 2: "A send is also sendbegin0's entry; a receive is also each exit of recvstatus0 or recvend0 that found it complete": as P1
    ∷ record {
      call = given (joined posted_a) (everywhere 5) 1;
      comes = answer 2 2 3 (pos 10 ∷ pos 12 ∷ pos 15 ∷ pos 15 ∷ pos 20 ∷ []);
      shows = report "verdict corrected\n" "listed 5\n" "matched 2\n" "rounds 3\n";
    }
    ∷ record {
      call = given (joined mixed_a) (everywhere 5) 2;
      comes = answer 2 2 3 (pos 10 ∷ pos 12 ∷ pos 15 ∷ pos 15 ∷ pos 20 ∷ []);
      shows = report "verdict corrected\n" "listed 5\n" "matched 2\n" "rounds 3\n";
    }
    -- none of these is a send or a receive
    ∷ record {
      call = given (joined no_messages) (everywhere 0) 1;
      comes = answer 3 0 0 (pos 0 ∷ pos 0 ∷ pos 0 ∷ pos 0 ∷ pos 0 ∷ []);
      shows = report "verdict nothing to judge\n" "listed 5\n" "matched 0\n" "rounds 0\n";
    }
    -- "Receives count by completion": the second belongs to the send of 8 bytes, although it is the first of its event
    ∷ record {
      call = given (joined two_events) (everywhere 0) 1;
      comes = refusal 14 4 0;
      shows = "refused 14 line 4 column 0\n" ∷ [];
    }
    -- "These types leave refusal 8; all others stay in it": wait0's -56, under lenient too
    ∷ record {
      call = given (bytes_of "-4 -56 0.000000 0 0 3 2 8 1 0\n") (everywhere 0) 2;
      comes = refusal 8 1 4;
      shows = "refused 8 line 1 column 4\n" ∷ [];
    }
    -- "10 asks for the number of data given there": three, and the report's four are too many
    ∷ record {
      call = given (bytes_of "-3 -27 0.000000 0 0 4 2 8 1 1 0\n") (everywhere 0) 1;
      comes = refusal 10 1 21;
      shows = "refused 10 line 1 column 21\n" ∷ [];
    }
    -- request 4: "14 is given exactly if the received length is above the sent one": 7 and 0 of 8 bytes are as P1, 9 are not
    ∷ record {
      call = given (joined (received_a "-4 -52 0.000009 1 0 3 2 7 1 0\n")) (everywhere 5) 1;
      comes = answer 2 2 3 (pos 10 ∷ pos 12 ∷ pos 15 ∷ pos 15 ∷ pos 20 ∷ []);
      shows = report "verdict corrected\n" "listed 5\n" "matched 2\n" "rounds 3\n";
    }
    ∷ record {
      call = given (joined (received_a "-4 -52 0.000009 1 0 3 2 0 1 0\n")) (everywhere 5) 1;
      comes = answer 2 2 3 (pos 10 ∷ pos 12 ∷ pos 15 ∷ pos 15 ∷ pos 20 ∷ []);
      shows = report "verdict corrected\n" "listed 5\n" "matched 2\n" "rounds 3\n";
    }
    ∷ record {
      call = given (joined (received_a "-4 -52 0.000009 1 0 3 2 9 1 0\n")) (everywhere 5) 1;
      comes = refusal 14 3 0;
      shows = "refused 14 line 3 column 0\n" ∷ [];
    }
    -- "Nothing else in matching moves": the first receive belongs to the first send, although the second would fit
    ∷ record {
      call = given (joined other_pairing) (everywhere 0) 1;
      comes = refusal 14 3 0;
      shows = "refused 14 line 3 column 0\n" ∷ [];
    }
    -- request 5: "Where a field or LF is missing, the column is one past the line's last byte", whatever else is bad
    ∷ bad_line "-3 0 x 0 0 0" 5 13 "refused 5 line 1 column 13\n"
    ∷ bad_line "x y\n" 5 4 "refused 5 line 1 column 4\n"
    ∷ bad_line "\n" 5 1 "refused 5 line 1 column 1\n"
    -- an empty field begins where it would stand
    ∷ bad_line "-3 0  0 0 0\n" 6 6 "refused 6 line 1 column 6\n"
    ∷ bad_line "-3 0 0.000000 0 0 \n" 5 19 "refused 5 line 1 column 19\n"
    -- "a field too many is one", and so is the one behind a space at the end, and all that follows the six of an unlisted line
    ∷ bad_line "-3 0 0.000000 0 0 0 2\n" 5 21 "refused 5 line 1 column 21\n"
    ∷ bad_line "-3 0 0.000000 0 0 0 \n" 5 21 "refused 5 line 1 column 21\n"
    ∷ bad_line "-5 0 0.000000 0 0 0 x y\n" 5 21 "refused 5 line 1 column 21\n"
    -- the descriptor that is missing
    ∷ bad_line "-5 0 0.000000 0 0 1\n" 5 20 "refused 5 line 1 column 20\n"
    ∷ bad_line "-5 0 0.000000 0 0 1 \n" 5 21 "refused 5 line 1 column 21\n"
    ∷ bad_line "-3 0 0.000000 0 0 2\n" 5 20 "refused 5 line 1 column 20\n"
    -- a count above 16, behind 9 and before all data, and one above 999
    ∷ bad_line "-3 0 0.000000 0 0 17 7\n" 5 19 "refused 5 line 1 column 19\n"
    ∷ bad_line "-3 0 0.000000 64 0 17 7\n" 9 15 "refused 9 line 1 column 15\n"
    ∷ bad_line "-3 0 0.000000 0 0 1000\n" 5 19 "refused 5 line 1 column 19\n"
    -- "the leftmost fault decides"
    ∷ bad_line "-3 0 0.000000 0 0 2 3\n" 5 21 "refused 5 line 1 column 21\n"
    ∷ bad_line "-3 0 0.000000 0 0 2 2 x\n" 5 23 "refused 5 line 1 column 23\n"
    ∷ bad_line "-3 0 0.000000 0 0 2 2 1 x 3\n" 5 25 "refused 5 line 1 column 25\n"
    ∷ bad_line "-3 0 0.000000 0 0 2 2 1\n" 5 24 "refused 5 line 1 column 24\n"
    -- the field that makes a line unlisted, not handled or off its place
    ∷ bad_line "-5 -905 0.000000 0 0 0\n" 7 1 "refused 7 line 1 column 1\n"
    ∷ bad_line "-3 -905 0.000000 0 0 0\n" 7 4 "refused 7 line 1 column 4\n"
    ∷ bad_line "-3 -22 0.000000 0 0 0 x\n" 8 4 "refused 8 line 1 column 4\n"
    ∷ bad_line "-3 0 0.000000 64 1 0\n" 9 15 "refused 9 line 1 column 15\n"
    ∷ bad_line "-3 0 0.000000 63 1 0\n" 9 18 "refused 9 line 1 column 18\n"
    -- "For 10 it is the data count's if that is wrong, else the descriptor's if it isn't 2, else the first bad datum's."
    ∷ bad_line "-3 -21 0.000000 0 0 2 5 0.000000 0.000000\n" 10 21 "refused 10 line 1 column 21\n"
    ∷ bad_line "-3 -21 0.000000 0 0 3 5 0.000000 0.000000 0.000000\n" 10 23 "refused 10 line 1 column 23\n"
    ∷ bad_line "-3 -21 0.000000 0 0 3 2 -1 1 64\n" 10 25 "refused 10 line 1 column 25\n"
    ∷ bad_line "-3 -21 0.000000 0 0 3 2 8 1 64\n" 10 29 "refused 10 line 1 column 29\n"
    -- request 6: "All else .. is for the reading of the merged bytes": each record has the time that P1 has for it
    ∷ record {
      call = given (merged_bytes (joined node0) (joined node1)) (everywhere 5) 1;
      comes = answer 2 2 3 (pos 15 ∷ pos 10 ∷ pos 15 ∷ pos 12 ∷ pos 20 ∷ []);
      shows = report "verdict corrected\n" "listed 5\n" "matched 2\n" "rounds 3\n";
    }
    -- request 8: "count is entries plus marks", of "that processor's earlier records"
    ∷ record {
      call = comparing 1 (counted "-102 -1 0.000013 0 0 1 \"%d%d\" 5 2\n");
      comes = answer 3 0 0 (pos 10 ∷ pos 10 ∷ pos 12 ∷ pos 13 ∷ pos 13 ∷ pos 14 ∷ []);
      shows = report "verdict nothing to judge\n" "listed 6\n" "matched 0\n" "rounds 0\n";
    }
    -- "A difference is refusal 19 at the first statistics line in the file that has one", and "0 for off"
    ∷ record {
      call = comparing 1 (counted "-102 -1 0.000013 0 0 1 \"%d%d\" 5 3\n");
      comes = refusal 19 5 0;
      shows = "refused 19 line 5 column 0\n" ∷ [];
    }
    ∷ record {
      call = comparing 0 (counted "-102 -1 0.000013 0 0 1 \"%d%d\" 5 3\n");
      comes = answer 3 0 0 (pos 10 ∷ pos 10 ∷ pos 12 ∷ pos 13 ∷ pos 13 ∷ pos 14 ∷ []);
      shows = report "verdict nothing to judge\n" "listed 6\n" "matched 0\n" "rounds 0\n";
    }
    -- a line without pairs, and the first of two that differ
    ∷ record {
      call = comparing 1 ("-102 -1 0.000000 0 0 0\n" ∷ "-102 -1 0.000000 0 0 1 \"%d%d\" 5 1\n" ∷ "-102 -1 0.000000 0 0 1 \"%d%d\" 5 2\n" ∷ []);
      comes = refusal 19 2 0;
      shows = "refused 19 line 2 column 0\n" ∷ [];
    }
    -- "A pair whose event isn't listed, a count .. of -1 .. [isn't] compared"
    ∷ record {
      call = comparing 1 (counted "-102 -1 0.000013 0 0 4 \"%d%d\" 5 -1 -22 9 -905 9 -1 9\n");
      comes = answer 3 0 0 (pos 10 ∷ pos 10 ∷ pos 12 ∷ pos 13 ∷ pos 13 ∷ pos 14 ∷ []);
      shows = report "verdict nothing to judge\n" "listed 6\n" "matched 0\n" "rounds 0\n";
    }
    -- "Their event field may be any whole number", and "Those with event field -1 are compared": -22 is not handled in other records
    ∷ record {
      call = comparing 1 (counted "-102 -22 0.000013 0 0 1 \"%d%d\" 5 3\n");
      comes = answer 3 0 0 (pos 10 ∷ pos 10 ∷ pos 12 ∷ pos 13 ∷ pos 13 ∷ pos 14 ∷ []);
      shows = report "verdict nothing to judge\n" "listed 6\n" "matched 0\n" "rounds 0\n";
    }
    -- "within one microsecond for each entry, and only where they are equally many", "a time of -1.000000"
    ∷ record {
      call = comparing 1 (timed "-101 -1 0.000020 0 0 4 \"%d%lf\" 5 0.000009 5 0.000011 5 -1.000000 6 0.000500\n");
      comes = answer 3 0 0 (pos 10 ∷ pos 11 ∷ pos 20 ∷ pos 20 ∷ []);
      shows = report "verdict nothing to judge\n" "listed 4\n" "matched 0\n" "rounds 0\n";
    }
    ∷ record {
      call = comparing 1 (timed "-101 -1 0.000020 0 0 2 \"%d%lf\" 5 0.000011 5 0.000012\n");
      comes = refusal 19 4 0;
      shows = "refused 19 line 4 column 0\n" ∷ [];
    }
    -- "volume of -21, -51 or -52 is the sum of its sends' or receives' lengths"
    ∷ record {
      call = comparing 1 volumes;
      comes = answer 1 2 0 (pos 10 ∷ pos 11 ∷ pos 11 ∷ pos 12 ∷ pos 13 ∷ pos 13 ∷ []);
      shows = report "verdict consistent\n" "listed 6\n" "matched 2\n" "rounds 0\n";
    }
    -- "at original times": under latencies of 5 the receive moves to 15. "moved times needn't agree" where that is read again
    ∷ record {
      call = calling (joined (received "-4 -52 0.000009 1 0 3 2 8 1 0\n" "-101 -1 0.000009 1 0 1 \"%d%lf\" -52 0.000001\n")) (everywhere 5)
          (record { choice = 1; levels = 0; picl = pos 0; user = pos 0; trace = pos 0; statistics = 1; share = 0 });
      comes = answer 2 1 2 (pos 10 ∷ pos 8 ∷ pos 15 ∷ pos 15 ∷ []);
      shows = report "verdict corrected\n" "listed 4\n" "matched 1\n" "rounds 2\n";
    }
    ∷ record {
      call = comparing 1 (received "-4 -52 0.000015 1 0 3 2 8 1 0\n" "-101 -1 0.000015 1 0 1 \"%d%lf\" -52 0.000001\n");
      comes = refusal 19 4 0;
      shows = "refused 19 line 4 column 0\n" ∷ [];
    }
    -- "after the line checks and 17, before 13"
    ∷ record {
      call = calling (joined three_faults) (everywhere 0)
          (record { choice = 1; levels = 1; picl = pos 1; user = pos 1; trace = pos 1; statistics = 1; share = 0 });
      comes = refusal 17 2 0;
      shows = "refused 17 line 2 column 0\n" ∷ [];
    }
    ∷ record {
      call = comparing 1 three_faults;
      comes = refusal 19 2 0;
      shows = "refused 19 line 2 column 0\n" ∷ [];
    }
    ∷ record {
      call = comparing 0 three_faults;
      comes = refusal 13 1 0;
      shows = "refused 13 line 1 column 0\n" ∷ [];
    }
    -- "become listed and join their processor's order"
    ∷ record {
      call = comparing 1 (entry0 ∷ "-102 -1 -0.000001 0 0 0\n" ∷ []);
      comes = refusal 11 2 0;
      shows = "refused 11 line 2 column 0\n" ∷ [];
    }
    -- "0 for off or 1 for on, otherwise refusal 1"
    ∷ record { call = comparing 2 []; comes = refusal 1 0 0; shows = "refused 1 line 0 column 0\n" ∷ [] }
    -- "The descriptor is the quoted text "%d%lf" for times, or "%d%d" for the other two"; that of other records is none, and these are none of
    -- theirs
    ∷ bad_line "-102 -1 0.000000 0 0 1 \"%d%lf\" 5 1\n" 5 24 "refused 5 line 1 column 24\n"
    ∷ bad_line "-101 -1 0.000000 0 0 1 \"%d%d\" 5 1\n" 5 24 "refused 5 line 1 column 24\n"
    ∷ bad_line "-103 -1 0.000000 0 0 2 2 5 1\n" 5 24 "refused 5 line 1 column 24\n"
    ∷ bad_line "-3 0 0.000000 0 0 1 \"%d%d\" 1\n" 5 21 "refused 5 line 1 column 21\n"
    -- "the data count counts pairs, at most 16", and with none there is no descriptor
    ∷ bad_line "-102 -1 0.000000 0 0 17 \"%d%d\"\n" 5 22 "refused 5 line 1 column 22\n"
    ∷ bad_line "-102 -1 0.000000 0 0 0 \"%d%d\"\n" 5 24 "refused 5 line 1 column 24\n"
    -- a pair that is not whole, one too many, and a time that is none
    ∷ bad_line "-102 -1 0.000000 0 0 1 \"%d%d\" 5\n" 5 32 "refused 5 line 1 column 32\n"
    ∷ bad_line "-102 -1 0.000000 0 0 1 \"%d%d\" 5 1 6\n" 5 35 "refused 5 line 1 column 35\n"
    ∷ bad_line "-101 -1 0.000000 0 0 1 \"%d%lf\" 5 -1\n" 5 34 "refused 5 line 1 column 34\n"
    -- request 9: "Share 0 is today's rule", as P1; at 500 one microsecond of each gap of 2 is kept, at 1,000 both
    ∷ record {
      call = keeping 0 trace_a (everywhere 5);
      comes = answer 2 2 3 (pos 10 ∷ pos 12 ∷ pos 15 ∷ pos 15 ∷ pos 20 ∷ []);
      shows = report "verdict corrected\n" "listed 5\n" "matched 2\n" "rounds 3\n";
    }
    ∷ record {
      call = keeping 500 trace_a (everywhere 5);
      comes = answer 2 2 3 (pos 10 ∷ pos 12 ∷ pos 15 ∷ pos 16 ∷ pos 21 ∷ []);
      shows = report "verdict corrected\n" "listed 5\n" "matched 2\n" "rounds 3\n";
    }
    ∷ record {
      call = keeping 1000 trace_a (everywhere 5);
      comes = answer 2 2 3 (pos 10 ∷ pos 12 ∷ pos 15 ∷ pos 17 ∷ pos 22 ∷ []);
      shows = report "verdict corrected\n" "listed 5\n" "matched 2\n" "rounds 3\n";
    }
    -- "that many thousandths of their original gap, rounded down", each by itself: of 1, 7 and 1 at 500 none, 3 and none, and not 4 of 9
    ∷ record {
      call = keeping 500 spaced (everywhere 0);
      comes = answer 2 1 4 (pos 20 ∷ pos 20 ∷ pos 20 ∷ pos 23 ∷ pos 23 ∷ []);
      shows = report "verdict corrected\n" "listed 5\n" "matched 1\n" "rounds 4\n";
    }
    -- "its predecessor": 4 of 8 are kept, and with a statistics record between 1 of 3 and 2 of 5
    ∷ record {
      call = keeping 500 (between []) (everywhere 0);
      comes = answer 2 1 2 (pos 20 ∷ pos 20 ∷ pos 24 ∷ []);
      shows = report "verdict corrected\n" "listed 3\n" "matched 1\n" "rounds 2\n";
    }
    ∷ record {
      call = keeping 500 (between ("-102 -1 0.000004 1 0 0\n" ∷ [])) (everywhere 0);
      comes = answer 2 1 3 (pos 20 ∷ pos 20 ∷ pos 21 ∷ pos 23 ∷ []);
      shows = report "verdict corrected\n" "listed 4\n" "matched 1\n" "rounds 3\n";
    }
    -- "refusal 15 .. read[s] this new condition": trace B's ring weighs nothing at 999, where both its gaps of 1 are rounded down
    ∷ record {
      call = keeping 999 trace_b (everywhere 0);
      comes = answer 2 2 3 (pos 4 ∷ pos 4 ∷ pos 4 ∷ pos 4 ∷ []);
      shows = report "verdict corrected\n" "listed 4\n" "matched 2\n" "rounds 3\n";
    }
    ∷ record { call = keeping 1000 trace_b (everywhere 0); comes = refusal 15 0 0; shows = "refused 15 line 0 column 0\n" ∷ [] }
    -- "A trace consistent at share 0 still is."
    ∷ record {
      call = keeping 1000 volumes (everywhere 0);
      comes = answer 1 2 0 (pos 10 ∷ pos 11 ∷ pos 11 ∷ pos 12 ∷ pos 13 ∷ pos 13 ∷ []);
      shows = report "verdict consistent\n" "listed 6\n" "matched 2\n" "rounds 0\n";
    }
    -- "A share above 1,000 is refusal 2", and so before 3
    ∷ record {
      call = keeping 1001 trace_a (everywhere 1000001);
      comes = refusal 2 0 0;
      shows = "refused 2 line 0 column 0\n" ∷ [];
    }
    ∷ []

-- each comes to what it should, and is reported so
unfoldable pub Hold : List Sample → Type 0
Hold [] = Unit
Hold (s ∷ ss) = (judge s.call ≡ s.comes) × (report_of (judge s.call).answer ≡ joined s.shows) × Hold ss
