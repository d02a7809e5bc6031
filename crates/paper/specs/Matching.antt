-- Document 01, "Matching and the clock condition", its first half: each receive and its send.
use Rattle.std.specs.Prelude.{ℕ, zero, suc, ◌+◌, ◌-◌, ◌*◌, List, [], ◌∷◌, Bool, true, false, cond, ◌&&◌, length, take, get_or, ℤ, pos, eqb, leb, Option, Result, Some, None, Ok, option_map}
use Rattle.paper.specs.Tests.{eq_z}
use Rattle.paper.specs.Columns.{whole_line, refused_at}
use Rattle.paper.specs.Gaps.{gap_of}
use Rattle.paper.specs.Clock.{Waits}
use Rattle.paper.specs.declared.Fault.{Fault}
use Rattle.paper.specs.declared.Data.TheVariants.{Others}
use Rattle.paper.specs.declared.Role.{Role}
use Rattle.paper.specs.declared.Role.TheVariants.{Neither, Send, Receive}
use Rattle.paper.specs.declared.Entry.{Entry}
use Rattle.paper.specs.declared.Refusal.{Refusal}

-- ---- who sends what to whom

-- "from p to q with type t"
pub record Key : Type 0 where
  pub sender : ℕ
  pub receiver : ℕ
  pub tag : ℤ

abbrev pub same_key : Key → Key → Bool
same_key a b = eqb a.sender b.sender && eqb a.receiver b.receiver && eq_z a.tag b.tag

-- a record on `processor` is a send under the key
unfoldable pub sends_under : Key → ℕ → Role → Bool
sends_under k processor Neither = false
sends_under k processor (Send m) = same_key k (record { sender = processor; receiver = m.peer; tag = m.tag })
sends_under k processor (Receive m) = false

-- a record on `processor` is a receive under the key
unfoldable pub receives_under : Key → ℕ → Role → Bool
receives_under k processor Neither = false
receives_under k processor (Send m) = false
receives_under k processor (Receive m) = same_key k (record { sender = m.peer; receiver = processor; tag = m.tag })

abbrev pub is_send_of : Key → Entry → Bool
is_send_of k e = sends_under k e.body.processor e.body.role

abbrev pub is_receive_of : Key → Entry → Bool
is_receive_of k e = receives_under k e.body.processor e.body.role

-- how many entries pass a test
unfoldable pub count_if : (Entry → Bool) → List Entry → ℕ
count_if test [] = 0
count_if test (e ∷ es) = cond (test e) (suc (count_if test es)) (count_if test es)

-- ---- the k-th send

-- the place of the k-th send under a key, k and places counted from 0
unfoldable pub send_place : Key → ℕ → List Entry → Option ℕ
send_place key k [] = None
send_place key zero (e ∷ es) = let more = option_map suc (send_place key zero es) in cond (is_send_of key e) (Some 0) more
send_place key (suc k) (e ∷ es) = cond (is_send_of key e) (option_map suc (send_place key k es)) (option_map suc (send_place key (suc k) es))

-- "The k-th receive at processor q from p with type t belongs to the k-th send from p to q with type t, both counted in file
-- order": the send of the entry at place i, where that has a role on a processor
unfoldable pub send_for : List Entry → ℕ → ℕ → Role → Option ℕ
send_for es i processor Neither = None
send_for es i processor (Send m) = None
send_for es i processor (Receive m) =
    let key : Key = record { sender = m.peer; receiver = processor; tag = m.tag } in
    send_place key (count_if (is_receive_of key) (take i es)) es

-- an entry that says nothing
abbrev pub no_entry : Entry
no_entry =
    record { line = 0; body = record { time = pos 0; processor = 0; kind = pos 0; event = pos 0; values = Others; role = Neither } }

-- an entry, or one that says nothing where there is no such place
unfoldable pub entry_at : List Entry → ℕ → Entry
entry_at es i = get_or es i no_entry

unfoldable pub send_of : List Entry → ℕ → Option ℕ
send_of es i = send_for es i (entry_at es i).body.processor (entry_at es i).body.role

-- ---- 13 and 14

-- the length of the message that a record sends
unfoldable pub length_sent : Role → ℕ
length_sent Neither = 0
length_sent (Send m) = m.length
length_sent (Receive m) = 0

abbrev pub length_at : List Entry → ℕ → ℕ
length_at es j = length_sent (entry_at es j).body.role

-- what a receive of so many bytes calls for: 13 where it has no send, 14 "exactly if the received length is above the sent one"
-- (change request 4)
unfoldable pub call_of : List Entry → ℕ → Option ℕ → Option Fault
call_of es received None = Some Fault.NoSend
call_of es received (Some j) = cond (leb received (length_at es j)) None (Some Fault.LongReceive)

unfoldable pub call_for : List Entry → ℕ → Role → Option Fault
call_for es i Neither = None
call_for es i (Send m) = None
call_for es i (Receive m) = call_of es m.length (send_of es i)

abbrev pub on_call : Option Fault → ℕ → Result Unit Refusal → Result Unit Refusal
on_call None line more = more
on_call (Some fault) line more = refused_at fault (whole_line line)

-- "the first receive in file order that calls for 13 or 14", among the entries from place i on
unfoldable pub matched_from : List Entry → ℕ → List Entry → Result Unit Refusal
matched_from es i [] = Ok tt
matched_from es i (e ∷ more) = on_call (call_for es i e.body.role) e.line (matched_from es (i + 1) more)

unfoldable pub matched_of : List Entry → Result Unit Refusal
matched_of es = matched_from es 0 es

-- ---- the counts

unfoldable pub is_send : Role → Bool
is_send Neither = false
is_send (Send m) = true
is_send (Receive m) = false

unfoldable pub is_receive : Role → Bool
is_receive Neither = false
is_receive (Send m) = false
is_receive (Receive m) = true

-- "matched messages": where all receives match, as many as there are receives
unfoldable pub matched_count : List Entry → ℕ
matched_count es = count_if (λ e. is_receive e.body.role) es

-- "sends not received"
unfoldable pub unreceived_count : List Entry → ℕ
unreceived_count es = count_if (λ e. is_send e.body.role) es - matched_count es

-- ---- what the records wait for

-- the last of the first i entries that passes a test
unfoldable pub last_of : (Entry → Bool) → List Entry → ℕ → Option ℕ
last_of test es zero = None
last_of test es (suc i) = let earlier = last_of test es i in cond (test (entry_at es i)) (Some i) earlier

abbrev pub is_on : ℕ → Entry → Bool
is_on processor e = eqb e.body.processor processor

-- the last of the first i entries that is on the processor
abbrev pub last_on : List Entry → ℕ → ℕ → Option ℕ
last_on es processor i = last_of (is_on processor) es i

-- "the entry at 64 times sender plus receiver, in microseconds", for a receive on a processor
unfoldable pub latency_for : List ℕ → ℕ → Role → ℕ
latency_for latencies processor Neither = 0
latency_for latencies processor (Send m) = 0
latency_for latencies processor (Receive m) = get_or latencies (64 * m.peer + processor) 0

-- the gap that is kept of the one between the entry at place i and the one before it on its processor
unfoldable pub gap_from : ℕ → List Entry → ℕ → Option ℕ → ℕ
gap_from share es i None = 0
gap_from share es i (Some j) = gap_of share (entry_at es j).body.time (entry_at es i).body.time

unfoldable pub waits_of : (share : ℕ) (latencies : List ℕ) → List Entry → Waits
waits_of share latencies es =
    record {
      size = length es;
      original = λ i. (entry_at es i).body.time;
      before = λ i. last_on es (entry_at es i).body.processor i;
      gap = λ i. gap_from share es i (last_on es (entry_at es i).body.processor i);
      send = send_of es;
      latency = λ i. latency_for latencies (entry_at es i).body.processor (entry_at es i).body.role;
    }
