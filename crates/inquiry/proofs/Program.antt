-- What is said by the files and by the arguments.
use Rattle.std.specs.Prelude.{Option, Result, Some, None, Ok, Err, is_some, unwrap_or, option_copied}
use Prim.Native.Nat.{ℕ}
use denote.Bor.{Bor}
use mathlib.Core.Path.{◌≡◌, refl, sym, ◌∙◌}
use mathlib.Core.Bool.{Bool, true, false}
use mathlib.Core.List.{List}
use lib.ListN.{length}
use lib.Dec.{eqb}
use Rattle.paper.specs.Columns.{nowhere}
use Rattle.paper.specs.declared.Asked.{Asked}
use Rattle.paper.specs.declared.Fault.TheVariants as Fault
use Rattle.answer.specs.Answers.{refusal}
use Rattle.table.specs.Table.{latencies_of, Decoded}
use Rattle.report.specs.Put.{Put}
use Rattle.report.specs.Said.{said_shown}
use Rattle.report.specs.declared.Said.{Said}
use Rattle.report.specs.declared.Said.TheVariants.{Answered, CannotRead}
use Rattle.report.proofs.Puts.{counted}
use Rattle.decided.specs.Decided.{ready_of}
use Rattle.showing.specs.Shown.{on_trace}
use Rattle.inquiry.specs.Arguments.{start_of}
use Rattle.inquiry.specs.Program.{TextInto, on_table, on_files, on_start, said_of}
use Rattle.showing.specs.declared.Shows.{Shows}

-- ---- the files

module _ (shows : Shows) (asked : Asked) (line : List ℕ) where
  -- what is said without the trace, by all three tests
  ends : (trace table : Option (Bor (List ℕ))) (other : Bor (List ℕ)) (fits : Bool) {said : Said} → fits ≡ eqb (length (unwrap_or table other).now) 16384
      → ready_of (is_some trace) (is_some table) fits ≡ Err said
      → said_shown said ≡ on_files shows asked line (option_copied trace) (option_copied table)
  unfolding ready_of on_files on_table
  ends None table other fits {said} t e = let q : said ≡ CannotRead = cc in rw q
  ends (Some trace) None other fits {said} t e = let q : said ≡ CannotRead = cc in rw q
  ends (Some trace) (Some table) other false {said} t e = let q : said ≡ Answered (refusal Fault.WrongLength nowhere) = cc in rw (q, sym t)
  ends (Some trace) (Some table) other true t e = cc

  -- and with it
  goes_on_lem : (trace table : Option (Bor (List ℕ))) (other another : Bor (List ℕ)) (fits : Bool) {latencies : List ℕ}
      → fits ≡ eqb (length (unwrap_or table other).now) 16384
      → (fits ≡ true → latencies ≡ latencies_of (unwrap_or table other).now)
      → ready_of (is_some trace) (is_some table) fits ≡ Ok tt
      → on_trace shows asked line (unwrap_or trace another).now latencies ≡ on_files shows asked line (option_copied trace) (option_copied table)
  unfolding ready_of on_files on_table
  goes_on_lem None table other another fits t holds e = cc
  goes_on_lem (Some trace) None other another fits t holds e = cc
  goes_on_lem (Some trace) (Some table) other another false t holds e = cc
  goes_on_lem (Some trace) (Some table) other another true t holds e = rw (sym t, holds refl)

  module _ (trace table : Option (Bor (List ℕ))) (other : Bor (List ℕ)) {held : Bor (List ℕ)} (is : held ≡ unwrap_or table other)
      {before latencies : List ℕ} {fits : Bool} (places : length before ≡ 4096) (decoded : Decoded held.now before fits latencies) where
    test : fits ≡ eqb (length (unwrap_or table other).now) 16384
    test = decoded.says ∙ rw (places, is)

    holds : fits ≡ true → latencies ≡ latencies_of (unwrap_or table other).now
    holds t = decoded.holds ∙ rw (sym decoded.says ∙ t, is)

    module _ {read got : Bool} (has_trace : read ≡ is_some trace) (has_table : got ≡ is_some table) {ready : Result Unit Said}
        (tells : ready ≡ ready_of read got fits) where
      tested : ready_of (is_some trace) (is_some table) fits ≡ ready
      tested = rw (← has_trace, ← has_table) (sym tells)

      module _ {room after : List ℕ} {end : ℕ} where
        pub not_judged : {said : Said} → ready ≡ Err said → Put room 0 (said_shown said) end after
            → Put room 0 (on_files shows asked line (option_copied trace) (option_copied table)) end after
        not_judged e p = rw (← ends trace table other fits test (tested ∙ e)) p

        pub judged : ready ≡ Ok tt → (another : Bor (List ℕ)) {bytes : Bor (List ℕ)} → bytes ≡ unwrap_or trace another
            → Put room 0 (on_trace shows asked line bytes.now latencies) end after
            → Put room 0 (on_files shows asked line (option_copied trace) (option_copied table)) end after
        judged e another b p = rw (← goes_on_lem trace table other another fits test holds (tested ∙ e), ← b) p

  pub by_files : (trace table : Option (List ℕ)) {room after : List ℕ} {end : ℕ} → Put room 0 (on_files shows asked line trace table) end after
      → TextInto (on_files shows asked line) room end after
  by_files trace table p = record { trace = trace; table = table; put = p; counts = counted p }

-- ---- the arguments

module _ (shows : Shows) (count : ℕ) (choice line share : List ℕ) {start : Result Asked Said} (begun : start ≡ start_of shows count choice share) {room after : List ℕ} {end : ℕ} where
  pub ended : {said : Said} → start ≡ Err said → Put room 0 (said_shown said) end after → TextInto (said_of shows count choice line share) room end after
  unfolding said_of on_start
  ended e p = record { trace = None; table = None; put = rw (sym begun ∙ e) p; counts = counted p }

  pub judges : {asked : Asked} → start ≡ Ok asked → TextInto (on_files shows asked line) room end after
      → TextInto (said_of shows count choice line share) room end after
  unfolding said_of on_start
  judges e t = record { trace = t.trace; table = t.table; put = rw (sym begun ∙ e) t.put; counts = t.counts }
