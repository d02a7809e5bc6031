-- What the call comes to, from what its two halves do; and that it comes to one thing only.
use Rattle.std.specs.Prelude.{Result, Ok, Err}
use Prim.Native.Nat.{ℕ, ◌≤◌, ◌<◌}
use mathlib.Core.Path.{◌≡◌, sym, ◌∙◌}
use mathlib.Core.Bool.{true, false}
use mathlib.Core.List.{List}
use borrow.Author.Tests.{le-leb, lt-leb}
use lib.ListN.{length}
use Rattle.paper.specs.Matching.{matched_of, matched_count, unreceived_count}
use Rattle.paper.specs.declared.Entry.{Entry}
use Rattle.store.specs.Layout.{capacity, entries_in}
use Rattle.chains.specs.Places.{places_of, Places, places_fit, found}
use Rattle.chains.proofs.Outcomes.{places_size, places_self, places_found, links_cleared}
use Rattle.message.specs.Outcome.{Outcome, answer_of, fitting, matching}
use Rattle.paper.specs.declared.Refusal.{Refusal}
use Rattle.message.specs.declared.Unmatched.{Unmatched}

-- ---- the answer

module _ (es : List Entry) {s : Result Unit Refusal} (e : s ≡ matched_of es) where
  pub refuses : {refusal : Refusal} → s ≡ Err refusal → Err (Unmatched.Refused refusal) ≡ answer_of es
  unfolding answer_of
  refuses f = rw (← e, f)

  pub matches : {counts : ℕ × ℕ} → s ≡ Ok tt → counts ≡ (matched_count es, unreceived_count es) → Ok counts ≡ answer_of es
  unfolding answer_of
  matches f g = rw (← e, f, g)

-- ---- the outcome

module _ (store : List ℕ) (sends link : List ℕ) where
  pub misfit_places : places_fit sends link ≡ false
      → ◌≡◌ {A = Outcome} (record { answer = Err Unmatched.Misfit; sends = sends; link = link }) (matching store sends link)
  unfolding matching fitting
  misfit_places h = rw h

  pub misfit_store : places_fit sends link ≡ true → capacity store < length sends
      → ◌≡◌ {A = Outcome} (record { answer = Err Unmatched.Misfit; sends = sends; link = link }) (matching store sends link)
  unfolding matching fitting
  misfit_store h g = rw (h, lt-leb (length sends) (capacity store) g)

  -- the places are found, and answered for
  module _ (h : places_fit sends link ≡ true) (p : Places) (e : p ≡ found store sends link) where
    pub found_self : p.sends ≡ places_of (entries_in store (length p.sends))
    found_self = places_self store (length sends) p.sends (places_found store sends link h p e)

    pub fits : length sends ≤ capacity store → {r : Result (ℕ × ℕ) Unmatched} → r ≡ answer_of (entries_in store (length p.sends))
        → ◌≡◌ {A = Outcome} (record { answer = r; sends = p.sends; link = p.link }) (matching store sends link)
    unfolding matching fitting
    fits g a =
        let size = places_size store (length sends) p.sends (places_found store sends link h p e) in
        rw (h, le-leb (length sends) (capacity store) g, rw size at a, places_found store sends link h p e, links_cleared store sends link h p e)

-- "any two outcomes allowed for the same inputs are equal"
pub one_outcome : (store : List ℕ) (sends link : List ℕ) (a b : Outcome) → a ≡ matching store sends link
    → b ≡ matching store sends link → a ≡ b
one_outcome store sends link a b e f = e ∙ sym f
