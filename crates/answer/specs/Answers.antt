-- The answers in parts: document 01's definitions have them within the outcome of a whole call.
use Rattle.std.specs.Prelude.{ℕ, cond, ltb}
use Rattle.paper.specs.Columns.{nowhere}
use Rattle.paper.specs.Numbers.{number_of}
use Rattle.paper.specs.Answer.{verdict_of}
use Rattle.paper.specs.declared.Fault.{Fault}
use Rattle.paper.specs.declared.Fault.TheVariants.{NoRoom}
use Rattle.paper.specs.declared.Site.{Site}
use Rattle.paper.specs.declared.Answer.{Answer}
use Rattle.paper.specs.declared.Filled.{Filled}
use Rattle.answer.specs.declared.Counts.{Counts}

-- "Every refusal returns its number and line, verdict 0 and all counts 0"
unfoldable pub refusal : Fault → Site → Answer
refusal fault site =
    record {
      number = number_of fault;
      line = site.line;
      column = site.column;
      verdict = 0;
      listed = 0;
      passed = 0;
      matched = 0;
      unreceived = 0;
      rounds = 0;
      written = 0;
    }

-- a time moved exactly if there was a round
unfoldable pub verdict_by : ℕ → ℕ → ℕ
verdict_by matched rounds = verdict_of matched (ltb 0 rounds)

unfoldable pub acceptance : Counts → ℕ → Answer
acceptance c written =
    record {
      number = 0;
      line = 0;
      column = 0;
      verdict = verdict_by c.matched c.rounds;
      listed = c.listed;
      passed = c.passed;
      matched = c.matched;
      unreceived = c.unreceived;
      rounds = c.rounds;
      written = written;
    }

-- ---- of a call that fills a list

unfoldable pub unfilling : Fault → Site → Filled
unfilling fault site = record { number = number_of fault; line = site.line; column = site.column; filled = 0 }

-- "then a list too short is 16"
unfoldable pub filling_in : (count places : ℕ) → Filled
filling_in count places = cond (ltb places count) (unfilling NoRoom nowhere) (record { number = 0; line = 0; column = 0; filled = count })
