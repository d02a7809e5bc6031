-- A trace that was read into a store: what was answered and what the store holds, each by itself.
use Prim.Native.Nat.{ℕ, ◌≤◌, ◌<◌, ◌^◌}
use mathlib.Core.Path.{◌≡◌, sym, ap, ◌∙◌}
use mathlib.Core.List.{List}
use lib.ListN.{length}
use Rattle.paper.specs.Reading.{Reading, read_of}
use Rattle.paper.specs.declared.Choice.{Choice}
use Rattle.reading.specs.Starts.{start_of}
use Rattle.store.specs.Layout.{capacity, entries_in}
use Rattle.store.proofs.Laws.{capacity_stored, entries_stored}
use Rattle.trace.specs.Read.{ReadInto, answer_of}
use Rattle.trace.specs.declared.Read.{Read}
use Rattle.trace.proofs.Entries.{listed_many, listed_few, entries_small}

module _ {choice : Choice} {s store₀ : List ℕ} {r : Read} {store : List ℕ} (into : ReadInto choice s store₀ r store) where
  abbrev whole : Reading
  whole = read_of choice (capacity store₀) s

  pub stop_is : r.stop ≡ whole.stop
  unfolding answer_of
  stop_is = ap (λ (x : Read). x.stop) into.answer

  pub listed_is : length whole.entries ≡ r.listed
  unfolding answer_of
  listed_is = sym (listed_many choice (capacity store₀) s) ∙ sym (ap (λ (x : Read). x.listed) into.answer)

  pub passed_is : whole.state.passed ≡ r.passed
  unfolding answer_of
  passed_is = sym (ap (λ (x : Read). x.passed) into.answer)

  pub few_listed : r.listed ≤ capacity store₀
  few_listed = rw listed_is at (listed_few choice (capacity store₀) s)

  pub same_capacity : capacity store ≡ capacity store₀
  same_capacity = rw into.holds (capacity_stored (start_of s) whole.entries store₀ (listed_few choice (capacity store₀) s))

  pub entries_are : length s < 2 ^ 32 → entries_in store r.listed ≡ whole.entries
  entries_are short =
      rw (into.holds, ← listed_is) (entries_stored (start_of s) whole.entries store₀ (entries_small choice (capacity store₀) s short))
