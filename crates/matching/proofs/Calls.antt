-- "then the first receive in file order that calls for 13 or 14": what `matched_of` comes to.
use Rattle.std.specs.Prelude.{Option, Some, None, Ok}
use Rattle.std.proofs.lemmas.Option.{none-some, same_Some}
use Prim.Native.Nat.{ℕ, zero, suc, ◌+◌, ◌≤◌, ◌<◌}
use native.Mathlib.Omega.{arith}
use native.Mathlib.Decide.{dec_lt}
use native.Mathlib.Numerals.{add-one}
use mathlib.Core.Path.{◌≡◌, refl, sym, ◌∙◌}
use mathlib.Core.Logic.{◌⊎◌, inl, inr}
use mathlib.Core.Bool.{Bool, true, false, cond}
use mathlib.Core.List.{List, []}
use borrow.Author.Tests.{leb-true}
use lib.Dec.{leb}
use lib.ListN.{length, drop, drop_of_length-le}
use lib.Seq.{drop-cons}
use Rattle.paper.specs.Columns.{whole_line, refused_at}
use Rattle.paper.specs.Matching.{entry_at, send_of, length_at, length_sent, call_of, call_for, on_call, matched_from, matched_of}
use Rattle.paper.specs.declared.Fault.{Fault}
use Rattle.paper.specs.declared.Site.{Site}
use Rattle.paper.specs.declared.Message.{Message}
use Rattle.paper.specs.declared.Role.TheVariants.{Receive}
use Rattle.paper.specs.declared.Entry.{Entry}
use Rattle.paper.proofs.Refusals.{same_fault, same_site}
use Rattle.matching.specs.Belongs.{Belongs}
use Rattle.matching.proofs.Belong.{role_at}

-- what the entry at place i calls for
abbrev pub call_at : List Entry → ℕ → Option Fault
call_at es i = call_for es i (role_at es i)

-- entry i is the first that calls for anything
pub record FirstCall (es : List Entry) (i : ℕ) (fault : Fault) : Type 0 where
  pub within : i < length es
  pub calls : call_at es i ≡ Some fault
  pub none_before : (k : ℕ) → k < i → call_at es k ≡ None

-- some entry is the first that calls, and none of the first n does
abbrev pub SomeCall : List Entry → Type 0
SomeCall es = (i : ℕ) × (fault : Fault) × FirstCall es i fault

abbrev pub NoCall : List Entry → ℕ → Type 0
NoCall es n = (k : ℕ) → k < n → call_at es k ≡ None

module _ (es : List Entry) where
  -- the search at one entry, and at the end
  pub matched_step : (i : ℕ) → i < length es
      → matched_from es i (drop i es) ≡ on_call (call_at es i) (entry_at es i).line (matched_from es (i + 1) (drop (i + 1) es))
  unfolding matched_from entry_at
  matched_step i h = rw (drop-cons es i (entry_at [] 0), add-one i)

  pub matched_end : (i : ℕ) → length es ≤ i → matched_from es i (drop i es) ≡ Ok tt
  unfolding matched_from
  matched_end i h = rw (drop_of_length-le es h)

  -- entries that call for nothing are passed over
  passed : (i : ℕ) → i ≤ length es → NoCall es i → matched_of es ≡ matched_from es i (drop i es)
  unfolding matched_of
  passed zero h none_before = refl
  passed (suc i) h none_before =
      passed i (omega arith) (λ k l. none_before k (omega arith)) ∙ matched_step i (omega arith) ∙ rw (none_before i (omega arith), add-one i)

  -- ---- exactly

  pub no_call_end : NoCall es (length es) → matched_of es ≡ Ok tt
  no_call_end h = passed (length es) (omega arith) h ∙ matched_end (length es) (omega arith)

  pub first_call_at : (i : ℕ) (fault : Fault) → FirstCall es i fault → matched_of es ≡ refused_at fault (whole_line (entry_at es i).line)
  first_call_at i fault f =
      passed i (omega (arith, f.within)) f.none_before ∙ matched_step i f.within ∙ rw f.calls

  -- there is a first call, or none
  pub search : (n : ℕ) → n ≤ length es → NoCall es n ⊎ SomeCall es
  search zero h = inl (λ k l. absurd (omega arith))
  search (suc n) h = go (search n (omega arith)) (call_at es n) refl
    where
      go : NoCall es n ⊎ SomeCall es → (o : Option Fault) → call_at es n ≡ o
          → NoCall es (suc n) ⊎ SomeCall es
      go (inr f) o e = inr f
      go (inl quiet) None e = inl (λ k l. last k l (dec_lt k n))
        where
          last : (k : ℕ) → k < suc n → Dec (k < n) → call_at es k ≡ None
          last k l (yes g) = quiet k g
          last k l (no g) = let z : k ≡ n = omega arith in rw z e
      go (inl quiet) (Some fault) e = inr (n, fault, record { within = omega arith; calls = e; none_before = quiet })

  pub end_no_call : matched_of es ≡ Ok tt → NoCall es (length es)
  end_no_call h = go (search (length es) (omega arith))
    where
      go : NoCall es (length es) ⊎ SomeCall es → NoCall es (length es)
      go (inl quiet) = quiet
      go (inr (i, fault, f)) =
          let at = first_call_at i fault f in let z : ◌≡◌ {A = ℕ} 0 1 = cc in absurd (omega arith)

  pub at_first_call : (fault : Fault) (site : Site) → matched_of es ≡ refused_at fault site
      → (i : ℕ) × FirstCall es i fault × (whole_line (entry_at es i).line ≡ site)
  at_first_call fault site h = go (search (length es) (omega arith))
    where
      go : NoCall es (length es) ⊎ SomeCall es
          → (i : ℕ) × FirstCall es i fault × (whole_line (entry_at es i).line ≡ site)
      go (inl quiet) = let end = no_call_end quiet in let z : ◌≡◌ {A = ℕ} 0 1 = cc in absurd (omega arith)
      go (inr (i, fault', f)) =
          let there = first_call_at i fault' f in
          let refused : refused_at fault' (whole_line (entry_at es i).line) ≡ refused_at fault site = sym there ∙ h in
          (i, rw (same_fault refused) at f, same_site refused)

  -- ---- a receive that calls for nothing has a send of at least its length

  call_none : (received : ℕ) (o : Option ℕ) → call_of es received o ≡ None → (j : ℕ) × (o ≡ Some j) × (received ≤ length_at es j)
  unfolding call_of
  call_none received None h = absurd (none-some _ (sym h))
  call_none received (Some j) h = go (leb received (length_at es j)) refl h
    where
      go : (t : Bool) → leb received (length_at es j) ≡ t → cond t None (Some Fault.LongReceive) ≡ None
          → (k : ℕ) × (Some j ≡ Some k) × (received ≤ length_at es k)
      go true e g = (j, refl, leb-true _ _ e)
      go false e g = absurd (none-some _ (sym g))

  -- "and where all match, every receive has a send"
  pub every_receive : matched_of es ≡ Ok tt → (i : ℕ) → i < length es → (m : Message) → role_at es i ≡ Receive m
      → (j : ℕ) × (send_of es i ≡ Some j) × (m.length ≤ length_at es j)
  unfolding call_for
  every_receive h i l m r = call_none m.length (send_of es i) (rw r at (end_no_call h i l))

  -- and no more was received than was sent
  pub no_more_received : matched_of es ≡ Ok tt → (i j : ℕ) → i < length es → send_of es i ≡ Some j → (b : Belongs es i j)
      → b.received.length ≤ b.sent.length
  unfolding length_sent
  no_more_received h i j l e b =
      let (k, f, low) = every_receive h i l b.received b.receives in
      let z : k ≡ j = same_Some k j (sym f ∙ e) in
      rw (z, b.sends) at low
