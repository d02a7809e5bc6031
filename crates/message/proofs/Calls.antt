-- What a receive calls for, by the place of its send, and the first that calls for anything.
use Rattle.std.specs.Prelude.{Option, Result, Some, None, Ok, Err}
use Prim.Native.Nat.{ℕ, ◌+◌, ◌≤◌, ◌<◌}
use native.Mathlib.Omega.{arith}
use mathlib.Core.Path.{◌≡◌, refl, sym, ap, ◌∙◌}
use mathlib.Core.List.{List}
use borrow.Author.Tests.{le-leb, lt-leb}
use lib.ListN.{length, get_or, drop}
use Rattle.paper.specs.Columns.{whole_line, refused_at}
use Rattle.paper.specs.Matching.{entry_at, send_of, call_of, call_for, length_sent, on_call, matched_from}
use Rattle.paper.specs.declared.Fault.{Fault}
use Rattle.paper.specs.declared.Message.{Message}
use Rattle.paper.specs.declared.Role.{Role}
use Rattle.paper.specs.declared.Role.TheVariants.{Neither, Send, Receive}
use Rattle.paper.specs.declared.Entry.{Entry}
use Rattle.paper.specs.declared.Site.{Site}
use Rattle.matching.proofs.Calls.{matched_step}
use Rattle.store.specs.Layout.{entry_from, entries_in}
use Rattle.store.proofs.Laws.{length_entries, entry_in}
use Rattle.chains.specs.Places.{places_of}
use Rattle.chains.proofs.Places.{has_send, has_none}
use Rattle.message.specs.Outcome.{stop_at}
use Rattle.paper.specs.declared.Refusal.{Refusal}

-- ---- what a record calls for

module _ (l : List ℕ) (n i : ℕ) (m : i < n) {role : Role} (h : role ≡ (entry_from l i).body.role) where
  abbrev es : List Entry
  es = entries_in l n

  role_is : (entry_at es i).body.role ≡ role
  role_is = ap (λ (e : Entry). e.body.role) (entry_in l n i m) ∙ sym h

  -- a record that is no receive
  pub calls_other : ((x : Message) → role ≡ Receive x → ⊥) → Ok tt ≡ stop_at es i
  unfolding stop_at call_for
  calls_other none = rw role_is (go role refl)
    where
      go : (r : Role) → role ≡ r → Ok tt ≡ on_call (call_for es i r) (entry_at es i).line (Ok tt)
      go Neither e = refl
      go (Send x) e = refl
      go (Receive x) e = absurd (none x e)

  module _ (x : Message) (r : role ≡ Receive x) (sends : List ℕ) (p : sends ≡ places_of es) where
    low : i < length es
    low = rw (length_entries l n) m

    site_is : {site : Site} → site ≡ whole_line (entry_from l i).line → whole_line (entry_at es i).line ≡ site
    site_is e = ap (λ (d : Entry). whole_line d.line) (entry_in l n i m) ∙ sym e

    -- "receive without a matching send"
    pub calls_no_send : n ≤ get_or sends i 0 → {site : Site} → site ≡ whole_line (entry_from l i).line → refused_at Fault.NoSend site ≡ stop_at es i
    unfolding stop_at call_for call_of
    calls_no_send g e = rw (role_is, r, ← site_is e, has_none es i low (rw (length_entries l n, ← p) g))

    module _ (sent : ℕ) (g : get_or sends i 0 < n) (q : sent ≡ length_sent (entry_from l (get_or sends i 0)).body.role) where
      its_length : length_sent (entry_at es (get_or sends i 0)).body.role ≡ sent
      its_length = ap (λ (d : Entry). length_sent d.body.role) (entry_in l n (get_or sends i 0) g) ∙ sym q

      its_send : send_of es i ≡ Some (get_or sends i 0)
      its_send = rw p (has_send es i low (rw (length_entries l n, ← p) g))

      -- "exactly if the received length is above the sent one"
      pub calls_long_receive : sent < x.length → {site : Site} → site ≡ whole_line (entry_from l i).line → refused_at Fault.LongReceive site ≡ stop_at es i
      unfolding stop_at call_for call_of
      calls_long_receive d e = rw (role_is, r, ← site_is e, its_send, its_length, lt-leb x.length sent d)

      pub calls_nothing : x.length ≤ sent → Ok tt ≡ stop_at es i
      unfolding stop_at call_for call_of
      calls_nothing d = rw (role_is, r, its_send, its_length, le-leb x.length sent d)

-- the search for the first call: a turn
module _ (es : List Entry) (i : ℕ) (m : i < length es) where
  pub stops : {s : Result Unit Refusal} {e : Refusal} → s ≡ stop_at es i → s ≡ Err e → Err e ≡ matched_from es i (drop i es)
  unfolding stop_at
  stops {s} {e} g f = sym (matched_step es i m ∙ called (call_for es i (entry_at es i).body.role) (sym g ∙ f))
    where
      called : (o : Option Fault) → on_call o (entry_at es i).line (Ok tt) ≡ Err e
          → on_call o (entry_at es i).line (matched_from es (i + 1) (drop (i + 1) es)) ≡ Err e
      called None g = let z : ◌≡◌ {A = ℕ} 0 1 = cc in absurd (omega arith)
      called (Some x) g = g

  pub goes_on_lem : {s : Result Unit Refusal} → s ≡ stop_at es i → s ≡ Ok tt → matched_from es (i + 1) (drop (i + 1) es) ≡ matched_from es i (drop i es)
  unfolding stop_at
  goes_on_lem {s} e f = sym (matched_step es i m ∙ called (call_for es i (entry_at es i).body.role) (sym e ∙ f))
    where
      called : (o : Option Fault) → on_call o (entry_at es i).line (Ok tt) ≡ Ok tt
          → on_call o (entry_at es i).line (matched_from es (i + 1) (drop (i + 1) es)) ≡ matched_from es (i + 1) (drop (i + 1) es)
      called None g = refl
      called (Some x) g = let z : ◌≡◌ {A = ℕ} 0 1 = cc in absurd (omega arith)
