-- What finding the sends comes to, from what the passes do; and that it comes to one thing only.
use Rattle.std.specs.Prelude.{unwrap_or}
use Prim.Native.Nat.{ℕ, ◌≤◌, ◌<◌}
use native.Mathlib.Omega.{arith}
use mathlib.Core.Path.{◌≡◌, sym, ap, ◌∙◌}
use mathlib.Core.Bool.{true, false}
use mathlib.Core.List.{List}
use borrow.Author.Tests.{eq-eqb, ne_eqb, lt-ltb, le-ltb}
use lib.ListN.{length, replicate}
use lib.Seq.{ext_get_or}
use Rattle.paper.specs.Clock.{listed}
use Rattle.paper.specs.Matching.{send_of}
use Rattle.store.specs.Layout.{too_many, entries_in}
use Rattle.store.proofs.Listed.{length_listed, listed_at}
use Rattle.store.proofs.Laws.{length_entries}
use Rattle.chains.specs.Places.{places_of, Places, places_fit, found}
use Rattle.chains.specs.Chains.{Placed, Placing}
use Rattle.chains.proofs.Places.{length_places}

-- ---- the places

all_placed : (l : List ℕ) (n : ℕ) (sends : List ℕ) → length sends ≡ n → Placed l n sends n → sends ≡ places_of (entries_in l n)
unfolding places_of
all_placed l n sends size h =
    rw (length_entries l n)
    (ext_get_or 0 sends (listed n (λ i. unwrap_or (send_of (entries_in l n) i) n)) (size ∙ sym (length_listed n (λ i. unwrap_or (send_of (entries_in l n) i) n)))
    (λ i m. h i (omega arith) ∙ sym (listed_at n (λ i. unwrap_or (send_of (entries_in l n) i) n) i 0 (omega arith))))

-- the places know how many they are
module _ (l : List ℕ) (n : ℕ) (sends : List ℕ) (e : sends ≡ places_of (entries_in l n)) where
  pub places_size : length sends ≡ n
  places_size = ap length e ∙ length_places (entries_in l n) ∙ length_entries l n

  pub places_self : sends ≡ places_of (entries_in l (length sends))
  places_self = rw places_size e

-- ---- whether the slices fit

module _ (sends link : List ℕ) where
  pub links_differ : (length link ≡ length sends → ⊥) → places_fit sends link ≡ false
  unfolding places_fit
  links_differ h = rw (ne_eqb (length link) (length sends) h)

  pub too_many_lem : length link ≡ length sends → too_many ≤ length sends → places_fit sends link ≡ false
  unfolding places_fit
  too_many_lem h g = rw (eq-eqb (length link) (length sends) h, le-ltb (length sends) too_many g)

  pub they_fit : length link ≡ length sends → length sends < too_many → places_fit sends link ≡ true
  unfolding places_fit
  they_fit h g = rw (eq-eqb (length link) (length sends) h, lt-ltb (length sends) too_many g)

-- ---- the outcome

module _ (store : List ℕ) (sends link : List ℕ) where
  pub not_found : places_fit sends link ≡ false
      → ◌≡◌ {A = Places} (record { sends = sends; link = link }) (found store sends link)
  unfolding found
  not_found h = rw h

  -- the slices fit, the places are put, and the links cleared
  pub all_found : length link ≡ length sends → length sends < too_many → {places links heads seen cleared : List ℕ}
      → Placing store (length sends) places links heads seen (length sends) → cleared ≡ replicate (length links) 0
      → ◌≡◌ {A = Places} (record { sends = places; link = cleared }) (found store sends link)
  unfolding found
  all_found h g {places} p e =
      rw (they_fit sends link h g, all_placed store (length sends) places p.size p.placed, e, p.chained.size)

  -- what a caller learns where the slices fit
  module _ (h : places_fit sends link ≡ true) (p : Places) (e : p ≡ found store sends link) where
    unfold_found : found store sends link ≡ record { sends = places_of (entries_in store (length sends)); link = replicate (length sends) 0 }
    unfolding found
    unfold_found = rw h

    pub places_found : p.sends ≡ places_of (entries_in store (length sends))
    places_found = ap (λ (q : Places). q.sends) (e ∙ unfold_found)

    pub links_cleared : p.link ≡ replicate (length sends) 0
    links_cleared = ap (λ (q : Places). q.link) (e ∙ unfold_found)

-- any two outcomes for the same slices are the same
pub one_finding : (store : List ℕ) (sends link : List ℕ) (a b : Places) → a ≡ found store sends link
    → b ≡ found store sends link → a ≡ b
one_finding store sends link a b e f = e ∙ sym f
