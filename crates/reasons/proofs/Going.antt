-- The records of a chain one after the other.
use Prim.Native.Nat.{ℕ, ◌+◌, ◌*◌, ◌≤◌, ◌<◌}
use mathlib.Core.Path.{◌≡◌, refl, ◌∙◌}
use mathlib.Core.List.{List, [], ◌++◌, append-nil, append_assoc}
use native.Mathlib.Numerals.{add-one}
use native.Mathlib.Omega.{arith}
use lib.ListN.{length, get_or, take, drop, drop_of_length-le}
use lib.Seq.{drop-cons}
use lib.IntN.{ℤ}
use Rattle.paper.specs.Clock.{time_at}
use Rattle.paper.specs.declared.Entry.{Entry}
use Rattle.report.specs.Put.{Short}
use Rattle.lines.specs.Adding.{Added}
use Rattle.lines.specs.Lines.{LineInto, step_shown}
use Rattle.lines.specs.Records.{stamped_at}
use Rattle.lines.specs.declared.Cause.{Cause}
use Rattle.lines.specs.declared.Stamped.{Stamped}
use Rattle.lines.proofs.Adding.{nothing_put, line_added, one_more}
use Rattle.reasons.specs.Reasons.{cause_of, reason_of, reasons_of}

module _ (es : List Entry) (times : List ℤ) (before gap latency : List ℕ) where
  -- ---- one line

  pub line_told : (i : ℕ) (more : List ℕ) {stamped : Stamped} {cause : Cause} {room after : List ℕ} {end : ℕ}
      → stamped ≡ stamped_at es (time_at times) i
      → cause ≡ cause_of es times before gap latency i more
      → LineInto (step_shown stamped cause) room end after
      → LineInto (reason_of es times before gap latency i more) room end after
  unfolding reason_of
  line_told i more s c into = rw (← s, ← c) into

  pub reason_added : (i : ℕ) (more : List ℕ) {blank line room after : List ℕ} {n at end : ℕ}
      → LineInto (reason_of es times before gap latency i more) blank n line
      → length blank ≡ 256
      → at + 256 ≤ length room
      → Added room at (take n line) end after
      → Short 256 room at (reason_of es times before gap latency i more) end after
  reason_added i more into long wide added = line_added into long wide added

  -- ---- all of them

  -- the invariant: what was put and what is left give the whole
  pub record Going (chain room₀ room : List ℕ) (at k : ℕ) : Type 0 where
    pub done : List ℕ
    pub put : Short (256 * k) room₀ 0 done at room
    pub whole : done ++ reasons_of es times before gap latency (drop k chain) ≡ reasons_of es times before gap latency chain
    pub inside : k ≤ length chain

  pub begins : (chain room : List ℕ) → Going chain room room 0 0
  begins chain room = record { done = []; put = nothing_put 0 room 0 (omega arith); whole = refl; inside = omega arith }

  module _ {chain room₀ room : List ℕ} {at k : ℕ} (g : Going chain room₀ room at k) where
    pub goes_on_lem : {end : ℕ} {after : List ℕ} → k < length chain
        → Short 256 room at (reason_of es times before gap latency (get_or chain k 0) (drop (k + 1) chain)) end after
        → Going chain room₀ after end (k + 1)
    unfolding reasons_of
    goes_on_lem h p =
        let text = reason_of es times before gap latency (get_or chain k 0) (drop (k + 1) chain) in
        let more = reasons_of es times before gap latency (drop (k + 1) chain) in
        let step : reasons_of es times before gap latency (drop k chain) ≡ text ++ more = rw (drop-cons chain k 0 h, add-one k) refl in
        record {
          done = g.done ++ text;
          put = one_more k g.put p;
          whole = append_assoc g.done text more ∙ rw (← step) g.whole;
          inside = omega arith;
        }

    pub all_put : length chain ≤ k → Short (256 * length chain) room₀ 0 (reasons_of es times before gap latency chain) at room
    unfolding reasons_of
    all_put h =
        let e : k ≡ length chain = omega (arith, g.inside, h) in
        let w : g.done ≡ reasons_of es times before gap latency chain = rw (drop_of_length-le chain {i = k} h, append-nil) at g.whole in
        rw (← w, ← e) g.put
