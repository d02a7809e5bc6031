-- The pairs that are compared are those of the record's own line, and all of them.
use Rattle.std.specs.Prelude.{Option, Result, Some, None, Ok, Err}
use Prim.Native.Nat.{ℕ, zero, suc, ◌+◌, ◌-◌, ◌<◌}
use native.Mathlib.Omega.{arith}
use mathlib.Core.Path.{◌≡◌, refl, ap}
use mathlib.Core.Bool.{Bool, true, false, cond}
use mathlib.Core.List.{List}
use lib.ListN.{length}
use lib.IntN.{ℤ}
use Rattle.paper.specs.Events.{listed_kind, is_statistics, standing_for}
use Rattle.paper.specs.Line.{Begun, bad, six, head_of, good_end, step_over, unlisted, Pairs, unpaired, pairs, pairs_for, as_pairs, values_in, placed, part_of, record_of, with_role, with_data, on_place, listed_line, sorted, begun, line_of}
use Rattle.paper.specs.Matching.{entry_at}
use Rattle.paper.specs.Reading.{Lines, State}
use Rattle.paper.specs.Statistics.{pairs_behind, pairs_in, line_in}
use Rattle.paper.specs.Answer.{Inputs, given, most}
use Rattle.paper.specs.declared.Choice.{Choice}
use Rattle.paper.specs.declared.Choice.TheVariants.{Strict, Lenient}
use Rattle.paper.specs.declared.Data.{Data}
use Rattle.paper.specs.declared.Entry.{Entry}
use Rattle.paper.specs.declared.Fault.TheVariants as Fault
use Rattle.paper.specs.declared.Head.{Head}
use Rattle.paper.specs.declared.Line.TheVariants.{Refused, Listed}
use Rattle.paper.specs.declared.Part.{Part}
use Rattle.paper.specs.declared.Record.{Record}
use Rattle.paper.specs.declared.Role.{Role}
use Rattle.paper.specs.declared.Standing.{Standing}
use Rattle.forms.proofs.Tests.{never}
use Rattle.reading.proofs.Along.{Reads, ends, passes, lists, along}
use Rattle.demands.specs.Steps.{entries, Read}
use Rattle.demands.specs.Statistics.{line_at, AllPairs}

-- ---- each record stands on the line that it names

module _ (choice : Choice) (limit : ℕ) where
  own_line : {x : Lines} {n : ℕ} {st st₁ : State} {es : List Entry} → Reads choice limit x n st es st₁ → (k : ℕ) → k < length es
      → (m : ℕ) × ((entry_at es k).line ≡ n + m) × (line_of choice (line_in x m) ≡ Listed (entry_at es k).body)
  unfolding line_in entry_at
  own_line ends k l = absurd (omega arith)
  own_line (passes p more) k l = let (m, e, is) = own_line more k l in (suc m, omega arith, is)
  own_line (lists p above room more) zero l = (0, omega arith, p)
  own_line (lists p above room more) (suc k) l = let (m, e, is) = own_line more k (omega arith) in (suc m, omega arith, is)

-- ---- a listed line begins with the types of its record

abbrev Begins : Head → Option (List ℕ) → Record → Type 0
Begins h fields r = (h.kind ≡ r.kind) × (values : Data) × (values_in h.kind h.count fields ≡ Ok values)

module _ (h : Head) (fields : Option (List ℕ)) (r : Record) where
  role_begins : (p : ℕ) (values : Data) → values_in h.kind h.count fields ≡ Ok values → (o : Option Role)
      → with_role h p values o ≡ Listed r → Begins h fields r
  unfolding with_role
  role_begins p values v None e = never (cc)
  role_begins p values v (Some role) e =
      let same : record_of h p values role ≡ r = cc in
      (ap (λ (q : Record). q.kind) same, values, v)

  data_begins : (p : ℕ) (part : Part) (v : Result Data ℕ) → values_in h.kind h.count fields ≡ v → with_data h p part v ≡ Listed r → Begins h fields r
  unfolding with_data
  data_begins p part (Err k) v e = never (cc)
  data_begins p part (Ok values) v e = role_begins p values v _ e

  listed_begins : listed_line h fields ≡ Listed r → Begins h fields r
  unfolding listed_line on_place
  listed_begins e = go (placed h.processor h.process) e
    where
      go : (o : Option ℕ) → on_place h fields o ≡ Listed r → Begins h fields r
      go None e = never (cc)
      go (Some p) e = data_begins p (part_of h.kind h.event) _ refl e

  -- an unlisted one is not listed
  unlisted_not : (choice : Choice) → ¬ (unlisted choice h fields ≡ Listed r)
  unfolding unlisted step_over
  unlisted_not choice e = go (good_end h.count fields) choice e
    where
      go : (t : Bool) (c : Choice) → ¬ (cond t (step_over c h) (Refused Fault.Form (Some 6)) ≡ Listed r)
      go true Strict e = never (cc)
      go true Lenient e = never (cc)
      go false c e = never (cc)

  sorted_begins : (choice : Choice) (s : Standing) → sorted choice h fields s ≡ Listed r → Begins h fields r
  unfolding sorted
  sorted_begins choice Standing.NotHandled e = never (cc)
  sorted_begins choice Standing.Unlisted e = absurd (unlisted_not choice e)
  sorted_begins choice Standing.Message e = listed_begins e
  sorted_begins choice Standing.Listed e = listed_begins e

  six_begins : (choice : Choice) → begun choice (six h fields) ≡ Listed r → Begins h fields r
  unfolding begun
  six_begins choice e = go (listed_kind h.kind) e
    where
      go : (t : Bool) → cond t (sorted choice h fields (standing_for h.kind h.event)) (unlisted choice h fields) ≡ Listed r → Begins h fields r
      go true e = sorted_begins choice _ e
      go false e = absurd (unlisted_not choice e)

-- ---- and has the pairs that it states

paired : (x : Pairs) (values : Data) → as_pairs x ≡ Ok values → (ps : List (ℤ × ℤ)) × (x ≡ pairs ps)
unfolding as_pairs
paired (unpaired k) values e = never (cc)
paired (pairs ps) values e = (ps, refl)

module _ (choice : Choice) (l : List ℕ) (r : Record) (statistics : is_statistics r.kind ≡ true) where
  line_pairs : line_of choice l ≡ Listed r
      → (h : Head) × (fields : Option (List ℕ)) × (head_of l ≡ six h fields) × (h.kind ≡ r.kind) × (pairs_for h.kind h.count fields ≡ pairs (pairs_in l))
  unfolding line_of begun pairs_in pairs_behind values_in
  line_pairs e = go (head_of l) refl e
    where
      go : (b : Begun) → head_of l ≡ b → begun choice b ≡ Listed r
          → (h : Head) × (fields : Option (List ℕ)) × (head_of l ≡ six h fields) × (h.kind ≡ r.kind) × (pairs_for h.kind h.count fields ≡ pairs (pairs_in l))
      go (bad fault k) q e = never (cc)
      go (six h fields) q e =
          let (kind, values, good) = six_begins h fields r choice e in
          let these : is_statistics h.kind ≡ true = rw kind statistics in
          let (ps, all) = paired (pairs_for h.kind h.count fields) values (rw these at good) in
          (h, fields, q, kind, rw (q, all))

-- ---- of a call

pub all_pairs : (i : Inputs) (choice : Choice) → Read i choice → (k : ℕ) → k < length (entries i choice)
    → is_statistics (entry_at (entries i choice) k).body.kind ≡ true → AllPairs i.trace (entries i choice) k
all_pairs i choice read k l statistics =
    let es = entries i choice in
    let (m, line, is) = own_line choice (most (given i)) (along choice (most (given i)) i.trace read.whole) k l in
    let z : (entry_at es k).line - 1 ≡ m = omega arith in
    let there : line_of choice (line_at i.trace es k) ≡ Listed (entry_at es k).body = rw z is in
    let (h, fields, good, kind, all) = line_pairs choice (line_at i.trace es k) (entry_at es k).body statistics there in
    record { head = h; fields = fields; good = good; kind = kind; all = all }
