-- The times do not matter to the matching: entries that differ in nothing else are matched alike. What is read again from a
-- written trace differs from what was read in the times alone.
use Rattle.std.specs.Prelude.{Option, Some, None}
use Prim.Native.Nat.{ℕ, zero, suc, ◌+◌}
use mathlib.Core.Path.{◌≡◌, refl, sym, ap, ◌∙◌}
use mathlib.Core.Bool.{Bool}
use mathlib.Core.List.{List, [], ◌∷◌, map}
use lib.ListN.{length, take, length-map, get_or-map}
use lib.IntN.{pos}
use Rattle.paper.specs.Matching.{Key, count_if, is_receive_of, send_place, send_for, entry_at, send_of, call_of, call_for, matched_from, matched_of, is_send, is_receive, matched_count, unreceived_count, last_of}
use Rattle.paper.specs.declared.Role.{Role}
use Rattle.paper.specs.declared.Role.TheVariants.{Neither, Send, Receive}
use Rattle.paper.specs.declared.Entry.{Entry}
use Rattle.matching.proofs.Keys.{receive_key}

-- an entry without its time
abbrev pub untimed : Entry → Entry
untimed e =
    let r = e.body in
    record {
      line = e.line;
      body = record { time = pos 0; processor = r.processor; kind = r.kind; event = r.event; values = r.values; role = r.role };
    }

-- entries that differ in their times alone
abbrev pub Alike : List Entry → List Entry → Type 0
Alike es fs = map untimed es ≡ map untimed fs

-- ---- without the times all is as with them

pub entry_untimed : (es : List Entry) (i : ℕ) → entry_at (map untimed es) i ≡ untimed (entry_at es i)
unfolding entry_at
entry_untimed es i = get_or-map untimed es i _

take_map : (es : List Entry) (i : ℕ) → take i (map untimed es) ≡ map untimed (take i es)
take_map es zero = refl
take_map [] (suc i) = refl
take_map (e ∷ es) (suc i) = ap (λ (l : List Entry). untimed e ∷ l) (take_map es i)

count_untimed : (test : Entry → Bool) → ((e : Entry) → test (untimed e) ≡ test e) → (es : List Entry)
    → count_if test (map untimed es) ≡ count_if test es
unfolding count_if
count_untimed test h [] = refl
count_untimed test h (e ∷ es) = rw (h e, count_untimed test h es)

place_untimed : (key : Key) (k : ℕ) (es : List Entry) → send_place key k (map untimed es) ≡ send_place key k es
unfolding send_place
place_untimed key k [] = refl
place_untimed key zero (e ∷ es) = rw (place_untimed key zero es)
place_untimed key (suc k) (e ∷ es) = rw (place_untimed key k es, place_untimed key (suc k) es)

pub last_untimed : (test : Entry → Bool) → ((e : Entry) → test (untimed e) ≡ test e) → (es : List Entry) (i : ℕ)
    → last_of test (map untimed es) i ≡ last_of test es i
unfolding last_of
last_untimed test h es zero = refl
last_untimed test h es (suc i) = rw (entry_untimed es i, h (entry_at es i), last_untimed test h es i)

module _ (es : List Entry) where
  send_for_untimed : (i processor : ℕ) (r : Role) → send_for (map untimed es) i processor r ≡ send_for es i processor r
  unfolding send_for
  send_for_untimed i processor Neither = refl
  send_for_untimed i processor (Send m) = refl
  send_for_untimed i processor (Receive m) =
      let key = receive_key processor m in
      rw (take_map es i, count_untimed (is_receive_of key) (λ e. refl) (take i es)) (place_untimed key (count_if (is_receive_of key) (take i es)) es)

  send_untimed : (i : ℕ) → send_of (map untimed es) i ≡ send_of es i
  unfolding send_of
  send_untimed i = rw (entry_untimed es i) (send_for_untimed i (entry_at es i).body.processor (entry_at es i).body.role)

  call_untimed : (received : ℕ) (o : Option ℕ) → call_of (map untimed es) received o ≡ call_of es received o
  unfolding call_of
  call_untimed received None = refl
  call_untimed received (Some j) = rw (entry_untimed es j)

  call_for_untimed : (i : ℕ) (r : Role) → call_for (map untimed es) i r ≡ call_for es i r
  unfolding call_for
  call_for_untimed i Neither = refl
  call_for_untimed i (Send m) = refl
  call_for_untimed i (Receive m) = rw (send_untimed i) (call_untimed m.length (send_of es i))

  matched_from_untimed : (i : ℕ) (more : List Entry) → matched_from (map untimed es) i (map untimed more) ≡ matched_from es i more
  unfolding matched_from
  matched_from_untimed i [] = refl
  matched_from_untimed i (e ∷ more) = rw (call_for_untimed i e.body.role, matched_from_untimed (i + 1) more)

  matched_untimed : matched_of (map untimed es) ≡ matched_of es
  unfolding matched_of
  matched_untimed = matched_from_untimed 0 es

-- ---- entries that differ in their times alone

module _ (es fs : List Entry) (h : Alike es fs) where
  pub same_size : length es ≡ length fs
  same_size = sym (length-map es untimed) ∙ ap length h ∙ length-map fs untimed

  pub same_entry : (i : ℕ) → untimed (entry_at es i) ≡ untimed (entry_at fs i)
  same_entry i = sym (entry_untimed es i) ∙ ap (λ (l : List Entry). entry_at l i) h ∙ entry_untimed fs i

  pub same_send : (i : ℕ) → send_of es i ≡ send_of fs i
  same_send i = sym (send_untimed es i) ∙ ap (λ (l : List Entry). send_of l i) h ∙ send_untimed fs i

  pub same_matched : matched_of es ≡ matched_of fs
  same_matched = sym (matched_untimed es) ∙ ap matched_of h ∙ matched_untimed fs

  same_count : (test : Entry → Bool) → ((e : Entry) → test (untimed e) ≡ test e) → count_if test es ≡ count_if test fs
  same_count test t = sym (count_untimed test t es) ∙ ap (count_if test) h ∙ count_untimed test t fs

  pub same_matched_count : matched_count es ≡ matched_count fs
  unfolding matched_count
  same_matched_count = same_count (λ e. is_receive e.body.role) (λ e. refl)

  pub same_unreceived_count : unreceived_count es ≡ unreceived_count fs
  unfolding unreceived_count
  same_unreceived_count = rw (same_matched_count, same_count (λ e. is_send e.body.role) (λ e. refl))
