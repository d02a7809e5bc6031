-- What is said, by what was decided.
use Rattle.std.specs.Prelude.{Option, Result, Some, None, Ok, Err, is_some, unwrap_or, option_copied}
use Prim.Native.Nat.{ℕ}
use denote.Bor.{Bor}
use mathlib.Core.Path.{◌≡◌, refl, sym, ◌∙◌}
use mathlib.Core.Bool.{Bool, true, false}
use mathlib.Core.List.{List}
use lib.ListN.{length}
use lib.Dec.{eqb}
use Rattle.paper.specs.Columns.{nowhere}
use Rattle.paper.specs.declared.Answer.{Answer}
use Rattle.paper.specs.declared.Asked.{Asked}
use Rattle.paper.specs.declared.Fault.TheVariants as Fault
use Rattle.answer.specs.Answers.{refusal}
use Rattle.table.specs.Table.{latencies_of, Decoded}
use Rattle.report.specs.declared.Said.{Said}
use Rattle.report.specs.declared.Said.TheVariants.{Answered, CannotRead}
use Rattle.files.specs.Told.{ByStored}
use Rattle.decided.specs.Decided.{ready_of, storing, end_of}
use Rattle.filed.specs.Filed.{answer_of, on_latencies, on_table, on_files}

-- ---- the judgement

module _ (asked : Asked) (wanted : Bool) (trace : List ℕ) where
  pub concludes : (latencies : List ℕ) {answer : Answer} {asks : Bool} (stored : Bool) {said : Said}
      → answer ≡ answer_of asked wanted trace latencies
      → asks ≡ storing wanted answer
      → said ≡ end_of asks answer stored
      → ByStored (on_latencies asked wanted trace latencies) said
  unfolding on_latencies
  concludes latencies stored a s e = record { stored = stored; says = e ∙ rw (s, a) }

-- ---- the files

module _ (asked : Asked) (wanted : Bool) where
  -- what is said without the judgement, by all three tests
  ends : (trace table : Option (Bor (List ℕ))) (other : Bor (List ℕ)) (fits : Bool) {said : Said} → fits ≡ eqb (length (unwrap_or table other).now) 16384
      → ready_of (is_some trace) (is_some table) fits ≡ Err said
      → ByStored (on_files asked wanted (option_copied trace) (option_copied table)) said
  unfolding ready_of on_files on_table
  ends None table other fits {said} t e = let q : said ≡ CannotRead = cc in record { stored = true; says = q }
  ends (Some trace) None other fits {said} t e = let q : said ≡ CannotRead = cc in record { stored = true; says = q }
  ends (Some trace) (Some table) other false {said} t e =
      let q : said ≡ Answered (refusal Fault.WrongLength nowhere) = cc in record { stored = true; says = q ∙ rw (sym t) }
  ends (Some trace) (Some table) other true t e = cc

  -- and with it
  goes_on_lem : (trace table : Option (Bor (List ℕ))) (other another : Bor (List ℕ)) (fits : Bool) {latencies : List ℕ} {said : Said}
      → fits ≡ eqb (length (unwrap_or table other).now) 16384
      → (fits ≡ true → latencies ≡ latencies_of (unwrap_or table other).now)
      → ready_of (is_some trace) (is_some table) fits ≡ Ok tt
      → ByStored (on_latencies asked wanted (unwrap_or trace another).now latencies) said
      → ByStored (on_files asked wanted (option_copied trace) (option_copied table)) said
  unfolding ready_of on_files on_table
  goes_on_lem None table other another fits t holds e by = cc
  goes_on_lem (Some trace) None other another fits t holds e by = cc
  goes_on_lem (Some trace) (Some table) other another false t holds e by = cc
  goes_on_lem (Some trace) (Some table) other another true t holds e by = record { stored = by.stored; says = by.says ∙ rw (sym t, holds refl) }

  module _ (trace table : Option (Bor (List ℕ))) (other : Bor (List ℕ)) {held : Bor (List ℕ)} (is : held ≡ unwrap_or table other) {before after : List ℕ} {fits : Bool}
      (places : length before ≡ 4096) (decoded : Decoded held.now before fits after) where
    test : fits ≡ eqb (length (unwrap_or table other).now) 16384
    test = decoded.says ∙ rw (places, is)

    holds : fits ≡ true → after ≡ latencies_of (unwrap_or table other).now
    holds t = decoded.holds ∙ rw (sym decoded.says ∙ t, is)

    module _ {read got : Bool} (has_trace : read ≡ is_some trace) (has_table : got ≡ is_some table) {ready : Result Unit Said}
        (tells : ready ≡ ready_of read got fits) where
      tested : ready_of (is_some trace) (is_some table) fits ≡ ready
      tested = rw (← has_trace, ← has_table) (sym tells)

      module _ {said : Said} where
        pub not_judged : ready ≡ Err said → ByStored (on_files asked wanted (option_copied trace) (option_copied table)) said
        not_judged e = ends trace table other fits test (tested ∙ e)

        pub judged : ready ≡ Ok tt → (another : Bor (List ℕ)) {bytes : Bor (List ℕ)} → bytes ≡ unwrap_or trace another
            → ByStored (on_latencies asked wanted bytes.now after) said
            → ByStored (on_files asked wanted (option_copied trace) (option_copied table)) said
        judged e another b by = goes_on_lem trace table other another fits test holds (tested ∙ e) (rw (← b) by)
