-- What is patched is the paper's written trace, where the reading came to its end with the records of the store.
use Rattle.std.specs.Prelude.{Some, Ok}
use Prim.Native.Nat.{ℕ, suc, ◌+◌, ◌-◌, ◌≤◌, ◌<◌}
use mathlib.Core.Path.{◌≡◌, refl, sym, ap, ◌∙◌}
use mathlib.Core.List.{List, [], ◌∷◌, ◌++◌, append_assoc}
use mathlib.Core.Bool.{Bool, true, false, cond}
use native.Mathlib.Nat.{add-zero, zero-add}
use native.Mathlib.Omega.{arith}
use lib.ListN.{length, take, drop, get_or, length-append}
use lib.Seq.{take_at, drop_at}
use lib.IntN.{ℤ, pos, nat_abs}
use Rattle.paper.specs.Tests.{eq_z}
use Rattle.paper.specs.Forms.{time_shown}
use Rattle.paper.specs.Line.{field, after}
use Rattle.paper.specs.Matching.{entry_at}
use Rattle.paper.specs.Reading.{Lines, lines_of, State, read_of}
use Rattle.paper.specs.Written.{with_stamp, write_line, written_from}
use Rattle.paper.specs.declared.Choice.{Choice}
use Rattle.paper.specs.declared.Entry.{Entry}
use Rattle.shown.specs.Writes.{shown_length}
use Rattle.signed.proofs.Equal.{eq_z_true}
use Rattle.forms.proofs.Back.{back_and_there}
use Rattle.forms.proofs.Goods.{time_in_range}
use Rattle.reading.specs.Starts.{bytes_before, start_of}
use Rattle.reading.proofs.Along.{Reads, ends, passes, lists, along}
use Rattle.reading.proofs.Fields.{field_free, field_joined, after_of}
use Rattle.reading.proofs.Stamp.{Timed, timed_line}
use Rattle.reading.proofs.Starts.{no_bytes, bytes_here, lines_next}
use Rattle.store.specs.Layout.{entries_in, entry_from, start_from}
use Rattle.store.proofs.Laws.{length_entries, entry_in}
use Rattle.stamps.specs.Stamps.{stamp_on, stamp_length, in_place}
use Rattle.writing.specs.Patched.{Move, moves_from, patched, bytes_for}
use Rattle.writing.proofs.Patches.{behind_some, HasForm, in_range, in_place_lem, stamp_replaced}

-- ---- a line with its time

-- its time's bytes put in again leave it as it is
own_stamp : (l : List ℕ) (t : ℤ) → Timed l t → with_stamp (time_shown t) l ≡ l
unfolding with_stamp
own_stamp l t p =
    rw (← back_and_there (field (after (after l))) t p.stamp, ← field_joined (after (after l)) p.three, ← field_joined (after l) p.two)
    (sym (field_joined l p.one))

-- what stands before its stamp
front : List ℕ → List ℕ
front l = field l ++ (32 ∷ field (after l) ++ (32 ∷ []))

-- and behind it, with the LF and some bytes more
back : List ℕ → List ℕ → List ℕ
back l more = (32 ∷ after (after (after l)) ++ (10 ∷ [])) ++ more

module _ (l more stamp : List ℕ) where
  stamped : with_stamp stamp l ++ (10 ∷ more) ≡ front l ++ (stamp ++ back l more)
  unfolding with_stamp front back
  stamped = simp append_assoc

  third_on : after (after (with_stamp stamp l ++ (10 ∷ more))) ≡ stamp ++ back l more
  unfolding front
  third_on =
      rw stamped
      (simp append_assoc
      (rw (after_of (field l) (field (after l) ++ (32 ∷ stamp ++ back l more)) (field_free l), after_of (field (after l)) (stamp ++ back l more) (field_free (after l)))))

-- ---- the hypotheses

-- the reading of s came to its end, its entries are in the store with their lines' starts, and each has a time with a form
pub record Fits (choice : Choice) (most : ℕ) (s : List ℕ) (store : List ℕ) (times : List ℤ) : Type 0 where
  pub whole : (read_of choice most s).stop ≡ Ok tt
  pub entries : entries_in store (length times) ≡ (read_of choice most s).entries
  pub starts : (i : ℕ) → i < length times → start_from store i ≡ start_of s (entry_at (read_of choice most s).entries i).line
  pub forms : (i : ℕ) → i < length times → nat_abs (get_or times i (pos 0)) ≤ 999999999999999

module _ (s : List ℕ) (store : List ℕ) where
  -- the same of the entries from place k on
  abbrev Kept : ℕ → List Entry → Type 0
  Kept k es = (j : ℕ) → j < length es → (entry_from store (k + j) ≡ entry_at es j) × (start_from store (k + j) ≡ start_of s (entry_at es j).line)

  kept_here : (k : ℕ) (e : Entry) (es : List Entry) → Kept k (e ∷ es) → (entry_from store k ≡ e) × (start_from store k ≡ start_of s e.line)
  unfolding entry_at
  kept_here k e es kept = rw add-zero at (kept 0 (omega arith))

  kept_later : (k : ℕ) (e : Entry) (es : List Entry) → Kept k (e ∷ es) → Kept (k + 1) es
  unfolding entry_at
  kept_later k e es kept j h = let same : k + 1 + j ≡ k + suc j = omega arith in rw same (kept (suc j) (omega arith))

  -- ---- one line, with what is between the last stamp and it

  module _ (run l more : List ℕ) (moves : List Move) (w : List ℕ) where
    -- a line that is kept
    line_kept : patched s store ((run ++ (l ++ (10 ∷ []))) ++ more) moves ≡ Some ((run ++ (l ++ (10 ∷ []))) ++ w)
        → patched s store (run ++ (l ++ (10 ∷ more))) moves ≡ Some (run ++ (l ++ (10 ∷ w)))
    line_kept e = simp append_assoc at e

    -- a line with another time
    module _ (k : ℕ) (t₀ t : ℤ) (timed : Timed l t₀) (old : HasForm t₀) (new : HasForm t)
        (time : (entry_from store k).body.time ≡ t₀) (start : drop (start_from store k) s ≡ l ++ (10 ∷ more)) where
      abbrev rest : List ℕ
      rest = run ++ (l ++ (10 ∷ more))

      split : rest ≡ (run ++ front l) ++ (time_shown t₀ ++ back l more)
      split = rw (rw (own_stamp l t₀ timed) at (stamped l more (time_shown t₀))) (sym (append_assoc run (front l) (time_shown t₀ ++ back l more)))

      on : stamp_on s store k ≡ time_shown t₀ ++ back l more
      unfolding stamp_on
      on = rw start (rw (own_stamp l t₀ timed) at (third_on l more (time_shown t₀)))

      long : stamp_length store k ≡ length (time_shown t₀)
      unfolding stamp_length
      long = rw time old.is

      placed : in_place (length rest) (length (stamp_on s store k)) (stamp_length store k) (shown_length t) ≡ true
      placed =
          in_place_lem
          (record {
            begins = rw (on, split) (simp length-append (omega arith));
            ends = rw (on, long) (simp length-append (omega arith));
            was = omega (arith, long, old.is, old.low);
            gets = omega (arith, new.low);
          })

      before_stamp : take (length rest - length (stamp_on s store k)) rest ≡ run ++ front l
      before_stamp =
          let long : length (run ++ front l) ≡ length ((run ++ front l) ++ (time_shown t₀ ++ back l more)) - length (time_shown t₀ ++ back l more) =
          rw (length-append (run ++ front l) (time_shown t₀ ++ back l more)) (omega arith)
          in
          rw (on, split) (take_at (run ++ front l) (time_shown t₀ ++ back l more) _ long)

      after_stamp : drop (stamp_length store k) (stamp_on s store k) ≡ back l more
      after_stamp = rw (on, long) (drop_at (time_shown t₀) (back l more) (length (time_shown t₀)) refl)

      line_moved : patched s store (back l more) moves ≡ Some (back l w)
          → patched s store rest (record { place = k; time = t } ∷ moves) ≡ Some (run ++ (with_stamp (time_shown t) l ++ (10 ∷ w)))
      line_moved e =
          stamp_replaced s store rest k t moves placed
          ∙ rw (before_stamp, after_stamp, e, behind_some, stamped l w (time_shown t)) (ap Some (simp append_assoc))

      -- a listed line, whether its time moved or not
      line_listed : ((run₁ : List ℕ) → patched s store (run₁ ++ more) moves ≡ Some (run₁ ++ w))
          → (b : Bool) → eq_z (entry_from store k).body.time t ≡ b
          → patched s store rest (cond b moves (record { place = k; time = t } ∷ moves)) ≡ Some (run ++ (with_stamp (time_shown t) l ++ (10 ∷ w)))
      unfolding back
      line_listed later true e =
          let same : t₀ ≡ t = sym time ∙ eq_z_true _ _ e in
          rw (← same, own_stamp l t₀ timed) (line_kept (later (run ++ (l ++ (10 ∷ [])))))
      line_listed later false e = line_moved (later (32 ∷ after (after (after l)) ++ (10 ∷ [])))

  -- ---- all lines

  faithful : {choice : Choice} {most : ℕ} {x : Lines} {n : ℕ} {st st₁ : State} {es : List Entry} → Reads choice most x n st es st₁ → 1 ≤ n
      → lines_of (drop (start_of s n) s) ≡ x → (k : ℕ) → Kept k es → (times : List ℤ) → length times ≡ length es
      → ((i : ℕ) → i < length times → nat_abs (get_or times i (pos 0)) ≤ 999999999999999) → (run : List ℕ)
      → patched s store (run ++ drop (start_of s n) s) (moves_from store k times) ≡ Some (run ++ written_from choice x times)
  unfolding moves_from written_from write_line patched
  faithful {n = n} ends h is k kept [] e forms run = rw (no_bytes (drop (start_of s n) s) is)
  faithful ends h is k kept (t ∷ times) e forms run = absurd (omega arith)
  faithful {choice} (passes {l = l} {x = x} {n = n} p more) h is k kept times e forms run =
      rw (bytes_here s n h is, p)
      (line_kept run l (drop (start_of s (n + 1)) s) (moves_from store k times) (written_from choice x times)
      (faithful more (omega arith) (lines_next s n h is) k kept times e forms (run ++ (l ++ (10 ∷ [])))))
  faithful (lists p above room more) h is k kept [] e forms run = absurd (omega arith)
  faithful {choice} (lists {l = l} {x = x} {n = n} {es = es} {r = r} p above room more) h is k kept (t ∷ times) e forms run =
      let (entry, start) = kept_here k (record { line = n; body = r }) es kept in
      let timed = timed_line choice l r p in
      rw (bytes_here s n h is, p)
      (line_listed run l (drop (start_of s (n + 1)) s) (moves_from store (k + 1) times) (written_from choice x times) k r.time t timed
      (in_range r.time (time_in_range (field (after (after l))) r.time timed.stamp))
      (in_range t (forms 0 (omega arith)))
      (ap (λ (y : Entry). y.body.time) entry)
      (rw start (bytes_here s n h is))
      (λ run₁. faithful more (omega arith) (lines_next s n h is) (k + 1) (kept_later k _ es kept) times (omega arith) (λ i b. forms (suc i) (omega arith)) run₁)
      _ refl)

module _ {choice : Choice} {most : ℕ} {s : List ℕ} {store : List ℕ} {times : List ℤ} (fits : Fits choice most s store times) where
  many : length times ≡ length (read_of choice most s).entries
  many = sym (length_entries store (length times)) ∙ ap length fits.entries

  all_kept : Kept s store 0 (read_of choice most s).entries
  all_kept j h =
      let b : j < length times = rw many h in
      rw zero-add (sym (entry_in store (length times) j b) ∙ ap (λ (es : List Entry). entry_at es j) fits.entries, fits.starts j b)

  pub bytes_written : bytes_for s store times ≡ Some (written_from choice (lines_of s) times)
  unfolding bytes_for start_of bytes_before
  bytes_written = faithful s store (along choice most s fits.whole) (omega arith) refl 0 all_kept times many fits.forms []
