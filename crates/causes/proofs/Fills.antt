-- What a call comes to that fills a list or is refused by a row of a table, whatever it fills the list with.
use Prim.Native.Nat.{◌≤◌, ◌<◌}
use native.Mathlib.Omega.{arith}
use mathlib.Core.Path.{◌≡◌, refl, sym, ◌∙◌}
use mathlib.Core.Logic.{◌⊎◌, inl, inr, ⊎_elim, ◌↔◌}
use mathlib.Core.List.{List}
use lib.ListN.{length, length-append, length-drop}
use lib.Seq.{take_at, drop_at}
use borrow.Author.Tests.{lt-ltb, le-ltb}
use Rattle.paper.specs.Numbers.{number_of}
use Rattle.paper.specs.Columns.{nowhere}
use Rattle.paper.specs.Filling.{Filling, untouched, filled_with, on_list}
use Rattle.paper.specs.declared.Fault.{Fault}
use Rattle.paper.specs.declared.Site.{Site}
use Rattle.demands.proofs.Numbers.{one_fault, some_number}
use Rattle.causes.specs.Calls.{number, site, filled, items}
use Rattle.causes.specs.Request.{Untouched, FilledBy}

-- ---- "then a list too short is 16"

module _ {A : Type 0} (xs list : List A) where
  pub list_short : length list < length xs → on_list xs list ≡ untouched list Fault.NoRoom nowhere
  unfolding on_list
  list_short l = rw (lt-ltb (length list) (length xs) l)

  pub list_fits : length xs ≤ length list → on_list xs list ≡ filled_with xs list
  unfolding on_list
  list_fits l = rw (le-ltb (length list) (length xs) l)

-- ---- the call

-- it is refused as the row says that it is in, and otherwise fits: then the list is filled from its start
pub record Fills {A : Type 0} (list : List A) (r : Filling A) (When : Fault → Site → Type 0) (Fits : Type 0) (its : Fits → List A) : Type 0 where
  pub answered : Fits ⊎ ((fault : Fault) × (s : Site) × When fault s)
  pub stops : (fault : Fault) (s : Site) → When fault s → r ≡ untouched list fault s
  pub fits : (f : Fits) → length (its f) ≤ length list
  pub fills : (f : Fits) → r ≡ filled_with (its f) list

module _ {A : Type 0} {list : List A} {r : Filling A} {When : Fault → Site → Type 0} {Fits : Type 0} {its : Fits → List A}
    (c : Fills list r When Fits its) where
  abbrev Row : Type 0
  Row = (fault : Fault) × (s : Site) × When fault s

  -- ---- refused

  module _ (fault : Fault) (s : Site) (when : When fault s) where
    refused_number : number r ≡ number_of fault
    unfolding untouched
    refused_number = rw (c.stops fault s when)

    refused_site : site r ≡ s
    unfolding untouched
    refused_site = rw (c.stops fault s when)

    refused_keeps : Untouched list r
    unfolding untouched
    refused_keeps = rw (c.stops fault s when) (record { none = refl; same = refl })

  -- ---- accepted

  module _ (f : Fits) where
    pub fits_number : number r ≡ 0
    unfolding filled_with
    fits_number = rw (c.fills f)

    pub fits_many : filled r ≡ length (its f)
    unfolding filled_with
    fits_many = rw (c.fills f)

    pub fits_items : items r ≡ its f
    unfolding filled_with
    fits_items = rw (c.fills f) (take_at (its f) _ _ refl)

    fits_filled : FilledBy list r
    unfolding filled_with
    fits_filled =
        rw (c.fills f)
        (record {
          places = rw (length-append, length-drop) (omega (arith, c.fits f));
          fits = c.fits f;
          stay = drop_at (its f) _ _ refl;
        })

  -- ---- by its number

  pub number_answers : (number r ≡ 0) ⊎ Row
  number_answers = ⊎_elim (λ f. inl (fits_number f)) inr c.answered

  pub number_fits : number r ≡ 0 → Fits
  number_fits e = ⊎_elim (λ f. f) (λ (fault, s, when). absurd (some_number fault (sym (refused_number fault s when) ∙ e))) c.answered

  pub number_refuses : (fault : Fault) (s : Site) → ((number r ≡ number_of fault) × (site r ≡ s)) ↔ When fault s
  number_refuses fault s = (λ (e, there). go e there c.answered, λ when. (refused_number fault s when, refused_site fault s when))
    where
      go : number r ≡ number_of fault → site r ≡ s → Fits ⊎ Row → When fault s
      go e there (inl f) = absurd (some_number fault (sym e ∙ fits_number f))
      go e there (inr (g, t, when)) =
          let same_fault : g ≡ fault = one_fault g fault (sym (refused_number g t when) ∙ e) in
          let same_site : t ≡ s = sym (refused_site g t when) ∙ there in
          rw (same_fault, same_site) at when

  pub number_keeps : ¬ (number r ≡ 0) → Untouched list r
  number_keeps h = ⊎_elim (λ f. absurd (h (fits_number f))) (λ (fault, s, when). refused_keeps fault s when) c.answered

  pub number_fills : number r ≡ 0 → FilledBy list r
  number_fills e = fits_filled (number_fits e)
