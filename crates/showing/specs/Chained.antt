-- What the call that tells a chain came to, as text.
use Rattle.std.specs.Prelude.{ℕ, cond, List, replicate, ℤ, eqb}
use Rattle.paper.specs.declared.Answer.{Answer}
use Rattle.paper.specs.declared.Entry.{Entry}
use Rattle.paper.specs.declared.Filled.{Filled}
use Rattle.waits.specs.Tables.{befores_of, gaps_of, latencies_of}
use Rattle.report.specs.Said.{said_shown}
use Rattle.report.specs.declared.Said.TheVariants as Said
use Rattle.reasons.specs.Reasons.{reasons_of}

-- a place for each record that a trace may list
unfoldable pub lent_list : List ℕ
lent_list = replicate 2048 0

-- a refusal, as the report has one
unfoldable pub answer_of : Filled → Answer
answer_of f =
    record {
      number = f.number;
      line = f.line;
      column = f.column;
      verdict = 0;
      listed = 0;
      passed = 0;
      matched = 0;
      unreceived = 0;
      rounds = 0;
      written = 0;
    }

unfoldable pub chain_shown : (share : ℕ) (latencies : List ℕ) → List Entry → List ℤ → (chain : List ℕ) → List ℕ
chain_shown share latencies es times chain = reasons_of es times (befores_of es) (gaps_of share es) (latencies_of latencies es) chain

unfoldable pub filled_shown : Filled → (share : ℕ) (latencies : List ℕ) → List Entry → List ℤ → (chain : List ℕ) → List ℕ
filled_shown f share latencies es times chain =
    cond (eqb f.number 0) (chain_shown share latencies es times chain) (said_shown (Said.Answered (answer_of f)))
