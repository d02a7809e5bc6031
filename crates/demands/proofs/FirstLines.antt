-- "Where the first lines of a trace are accepted and the whole is too .. the later lines change no time of the earlier ones."
use Rattle.std.specs.Prelude.{Result, Ok, Err}
use Prim.Native.Nat.{ℕ, ◌<◌}
use native.Mathlib.Omega.{arith}
use mathlib.Core.Path.{◌≡◌, refl, sym, ap, ◌∙◌}
use mathlib.Core.List.{List, ◌++◌}
use lib.ListN.{length, length-append}
use Rattle.paper.specs.Clock.{settled, settle}
use Rattle.paper.specs.Reading.{lines_of, Reading, read_of}
use Rattle.paper.specs.Matching.{matched_of, waits_of}
use Rattle.paper.specs.Answer.{Inputs, given, most}
use Rattle.paper.specs.declared.Asked.{Asked}
use Rattle.paper.specs.declared.Choice.{Choice}
use Rattle.paper.specs.declared.Entry.{Entry}
use Rattle.paper.specs.declared.Refusal.{Refusal}
use Rattle.matching.proofs.FirstLines.{waits_begin}
use Rattle.reading.specs.Joined.{AllEnded, resumed}
use Rattle.reading.proofs.Joined.{read_joined}
use Rattle.reading.proofs.Along.{along, one_reading}
use Rattle.reading.proofs.Counted.{all_ended}
use Rattle.rounds.specs.Compare.{First}
use Rattle.rounds.proofs.Prefix.{first_times}
use Rattle.demands.specs.Steps.{entries, waits, Accepted}
use Rattle.demands.specs.Parts.{listed, time}
use Rattle.demands.specs.Demand3.{Longer}
use Rattle.demands.proofs.Closed.{waits_closed}
use Rattle.demands.proofs.Times.{one_choice, listed_is, time_is}

-- a trace that is read to its end has an LF behind each line: bytes behind it only add records, where the whole is read to its end too
module _ (choice : Choice) (most : ℕ) (s more : List ℕ) (whole : (read_of choice most (s ++ more)).stop ≡ Ok tt) (ended : AllEnded (lines_of s)) where
  first_whole : (read_of choice most s).stop ≡ Ok tt
  unfolding resumed
  first_whole = go (read_of choice most s).stop refl
    where
      go : (x : Result Unit Refusal) → (read_of choice most s).stop ≡ x → x ≡ Ok tt
      go (Ok tt) e = refl
      go (Err refusal) e = sym (ap (λ (r : Reading). r.stop) (rw e at (read_joined choice most s more ended))) ∙ whole

  first_entries : (later : List Entry) × ((read_of choice most (s ++ more)).entries ≡ (read_of choice most s).entries ++ later)
  unfolding resumed
  first_entries = (_, ap (λ (r : Reading). r.entries) (rw first_whole at (read_joined choice most s more ended)))

-- and it does not matter how many records each of the two may list
pub more_entries : (choice : Choice) (most most' : ℕ) (s more t : List ℕ) → t ≡ s ++ more → (read_of choice most s).stop ≡ Ok tt
    → (read_of choice most' t).stop ≡ Ok tt → (later : List Entry) × ((read_of choice most' t).entries ≡ (read_of choice most s).entries ++ later)
more_entries choice most most' s more t joined e e' =
    let ended = all_ended (along choice most s e) in
    let whole = rw joined at e' in
    let same = one_reading choice most' most s (first_whole choice most' s more whole ended) e in
    let (later, f) = first_entries choice most' s more whole ended in
    (later, rw joined (rw same at f))

-- ---- their waits, and so their times, stay

waits_first : (share : ℕ) (table : List ℕ) (es later : List Entry) → matched_of es ≡ Ok tt
    → First (waits_of share table es) (waits_of share table (es ++ later))
waits_first share table es later e =
    let b = waits_begin es later share table e in
    record {
      size = b.size;
      original = λ k l. sym (b.original k l);
      before = λ k l. sym (b.before k l);
      gap = λ k l. sym (b.gap k l);
      send = λ k l. sym (b.send k l);
      latency = λ k l. sym (b.latency k l);
    }

module _ (i j : Inputs) (longer : Longer i j) (a : Accepted i) (b : Accepted j) where
  whole_choice : b.choice ≡ a.choice
  whole_choice = one_choice i b.choice a.choice (rw longer.asked at b.matched.compared.levelled.read.begun.chosen) a.matched.compared.levelled.read.begun.chosen

  whole_entries : (later : List Entry) × (entries j a.choice ≡ entries i a.choice ++ later)
  whole_entries =
      more_entries a.choice (most (given i)) (most (given j)) i.trace longer.more j.trace longer.trace a.matched.compared.levelled.read.whole
      (rw whole_choice at b.matched.compared.levelled.read.whole)

  pub times_stay : (k : ℕ) → k < listed i → time i k ≡ time j k
  unfolding waits_of
  times_stay k l =
      let es = entries i a.choice in
      let (later, e) = whole_entries in
      let inside : k < length es = rw (← listed_is i a) l in
      let inside_whole : k < length (entries j b.choice) = rw (whole_choice, e, length-append es later) (omega arith) in
      let share = i.asked.share in
      let table = i.latencies in
      let same_share : j.asked.share ≡ i.asked.share = ap (λ (x : Asked). x.share) longer.asked in
      let settles_whole : settle (waits_of i.asked.share i.latencies (es ++ later)) ≡ settled b.rounds b.times =
      rw (← e, ← longer.latencies, ← same_share, ← whole_choice) b.settles in
      time_is i a k inside
      ∙ first_times (waits i a.choice) (waits_of share table (es ++ later)) (waits_first share table es later a.matched.matches)
      (waits_closed share table es) (waits_closed share table (es ++ later)) settles_whole a.settles k inside
      ∙ sym (time_is j b k inside_whole)
