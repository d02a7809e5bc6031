-- Demand 2: "Records, sends and receives are read as the PICL report and our rules define, and each receive is matched to one send of
-- its own. Writing the corrected trace changes timestamps only; reading it again under that table and choice, if it is within the size
-- limit, gives those times and moves none."
use Rattle.std.specs.Prelude.{ℕ, ◌≤◌, ◌<◌, ◌≡◌, ◌⊎◌, ◌↔◌, true, List, [], ◌∷◌, ◌++◌, length, ℤ, Some}
use Rattle.paper.specs.Forms.{time_shown}
use Rattle.paper.specs.Line.{line_of}
use Rattle.paper.specs.Reading.{Lines, done, ended, lines_of}
use Rattle.paper.specs.Matching.{send_of}
use Rattle.paper.specs.Answer.{Inputs, longest}
use Rattle.paper.specs.declared.Choice.{Choice}
use Rattle.paper.specs.declared.Entry.{Entry}
use Rattle.paper.specs.declared.Line.TheVariants.{Passed, Listed}
use Rattle.paper.specs.declared.Message.{Message}
use Rattle.paper.specs.declared.Record.{Record}
use Rattle.paper.specs.declared.Role.TheVariants.{Receive}
use Rattle.forms.specs.Free.{Free}
use Rattle.matching.specs.Belongs.{role, Belongs}
use Rattle.demands.specs.Parts.{number, verdict, listed, passed, matched, unreceived, rounds, written, corrected, written_trace}
use Rattle.demands.specs.Steps.{Chosen, entries, Matched}
use Rattle.demands.specs.Switched.{uncompared, switched_off}
use Rattle.demands.specs.Accepted.{Moved, AcceptedAnswer}

-- ---- each receive and its send

-- "each receive is matched to one send", which it belongs to; the received length is at most the sent one
pub record Sent (es : List Entry) (k : ℕ) : Type 0 where
  pub send : ℕ
  pub is : send_of es k ≡ Some send
  pub belongs : Belongs es k send
  pub length : belongs.received.length ≤ belongs.sent.length

-- ---- the written trace

-- line m is line l with another third field
pub record Restamped (stamp l m : List ℕ) : Type 0 where
  pub first : List ℕ
  pub second : List ℕ
  pub third : List ℕ
  pub rest : List ℕ
  pub was : l ≡ first ++ (32 ∷ second ++ (32 ∷ third ++ (32 ∷ rest)))
  pub is : m ≡ first ++ (32 ∷ second ++ (32 ∷ stamp ++ (32 ∷ rest)))
  pub fields : Free 32 first × Free 32 second × Free 32 third × Free 32 stamp

-- the same lines but for the timestamps of the listed ones, which are these times in the file's order
pub data SameButStamps (choice : Choice) : Lines → List ℤ → Lines → Type 0 where
  end : SameButStamps choice done [] done
  passed_over : {l : List ℕ} {x y : Lines} {times : List ℤ} → line_of choice l ≡ Passed → SameButStamps choice x times y
      → SameButStamps choice (ended l x) times (ended l y)
  stamped : {l m : List ℕ} {r : Record} {x y : Lines} {t : ℤ} {times : List ℤ} → line_of choice l ≡ Listed r → Restamped (time_shown t) l m
      → SameButStamps choice x times y → SameButStamps choice (ended l x) (t ∷ times) (ended m y)

-- ---- reading it again

-- j reads what i wrote, "under that table and choice", and "under the same four numbers" of the levels, with the same share; of the comparison
-- of statistics: "demand 2's reading again has it off, since moved times needn't agree"
pub record Again (i j : Inputs) : Type 0 where
  pub trace : j.trace ≡ written_trace i
  pub latencies : j.latencies ≡ i.latencies
  pub asked : j.asked ≡ uncompared i.asked
  pub places : length j.times ≡ length i.times
  pub room : j.wanted ≡ true → written i ≤ length j.room

-- "gives those times and moves none": the same counts, but 0 rounds; the same bytes, where they are asked for
pub record Steady (i j : Inputs) : Type 0 where
  pub accepted : number j ≡ 0
  pub times : corrected j ≡ corrected i
  pub no_round : rounds j ≡ 0
  pub still : (choice : Choice) → Chosen j choice → ¬ Moved j choice
  pub consistent : (verdict j ≡ 1) ↔ (¬ (matched i ≡ 0))
  pub nothing : (verdict j ≡ 3) ↔ (matched i ≡ 0)
  pub lists : listed j ≡ listed i
  pub passes : passed j ≡ passed i
  pub matches : matched j ≡ matched i
  pub leaves : unreceived j ≡ unreceived i
  pub bytes : j.wanted ≡ true → written_trace j ≡ written_trace i

pub record Demand2 : Type 0 where
  -- "Records, sends and receives are read as the PICL report and our rules define": the counts are those of `read_of`'s records
  pub read : (i : Inputs) (choice : Choice) → Chosen i choice → number i ≡ 0 → AcceptedAnswer i choice
  -- "each receive is matched to one send"
  pub send : (i : Inputs) (choice : Choice) → Matched i choice → (k : ℕ) → k < length (entries i choice)
      → (m : Message) → role (entries i choice) k ≡ Receive m → Sent (entries i choice) k
  -- "of its own"
  pub own : (i : Inputs) (choice : Choice) → (j k l : ℕ) → k < length (entries i choice) → l < length (entries i choice)
      → send_of (entries i choice) k ≡ Some j → send_of (entries i choice) l ≡ Some j → k ≡ l
  -- "Writing the corrected trace changes timestamps only"
  pub stamps : (i : Inputs) (choice : Choice) → Chosen i choice → number i ≡ 0 → i.wanted ≡ true
      → SameButStamps choice (lines_of i.trace) (corrected i) (lines_of (written_trace i))
  -- "reading it again .., if it is within the size limit, gives those times and moves none"
  pub again : (i : Inputs) → number i ≡ 0 → i.wanted ≡ true → written i ≤ longest → (j : Inputs) → Again i j → Steady i j
  -- and with the comparison on, all else as there, it differs in nothing but 19
  pub again_compared : (i : Inputs) → number i ≡ 0 → i.wanted ≡ true → written i ≤ longest → (j : Inputs) → j.asked.statistics ≡ 1
      → Again i (switched_off j) → (number j ≡ 19) ⊎ Steady i j
