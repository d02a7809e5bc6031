-- The loop that writes: the bytes up to `from`, with their stamps replaced, are stored at the start of the room.
use Prim.Native.Nat.{ℕ, ◌+◌, ◌-◌, ◌≤◌, ◌<◌}
use mathlib.Core.Path.{◌≡◌, refl, sym, ap, ◌∙◌}
use mathlib.Core.List.{List, ◌++◌}
use mathlib.Core.Bool.{Bool, true, false}
use native.Mathlib.Nat.{zero-add}
use native.Mathlib.Omega.{arith}
use borrow.Author.Tests.{le-leb}
use lib.ListN.{length, take, drop, get_or, length-append, length-drop}
use lib.Seq.{take_all, sets, sets-eq, length-sets}
use lib.IntN.{ℤ, pos, nat_abs}
use Rattle.paper.specs.Forms.{time_shown}
use Rattle.shown.specs.Writes.{shown_length}
use Rattle.shown.proofs.Stores.{sets_append}
use Rattle.forms.proofs.Tests.{never}
use Rattle.stamps.specs.Stamps.{in_place, StampOf}
use Rattle.stamps.specs.declared.Stamp.{Stamp}
use Rattle.writing.specs.Patched.{bytes_for}
use Rattle.writing.specs.Outcome.{room_after}
use Rattle.writing.specs.Inner.{Next, Held, Stored}
use Rattle.writing.proofs.Patches.{front_short, takes_some, place_told}
use Rattle.writing.proofs.Going.{Going, Sound, going_start, all_told, misplaced, sound, more, onward}

pub record Filling (s : List ℕ) (store : List ℕ) (times : List ℤ) (room₀ room : List ℕ) (from to k : ℕ) : Type 0 where
  pub going : Going s store times from k
  pub long : length going.before ≡ to
  pub holds : room ≡ sets room₀ 0 going.before

pub filling_start : (s room₀ : List ℕ) {store : List ℕ} {times : List ℤ} {k : ℕ} → Next store times 0 k → Filling s store times room₀ room₀ 0 0 k
unfolding going_start
filling_start s room₀ next = record { going = going_start s next; long = refl; holds = refl }

module _ {s : List ℕ} {store : List ℕ} {times : List ℤ} {room₀ room : List ℕ} {from to k : ℕ} (filling : Filling s store times room₀ room from to k)
    (held : Held (bytes_for s store times) (length room₀)) where
  pub as_long : length room ≡ length room₀
  as_long = ap length filling.holds ∙ length-sets room₀ 0 filling.going.before

  -- one word more
  stored_next : (word : List ℕ) {last : List ℕ} → last ≡ sets room to word → last ≡ sets room₀ 0 (filling.going.before ++ word)
  stored_next word e =
      e ∙ rw (filling.holds, ← filling.long) (sym (rw zero-add at (sets_append filling.going.before word room₀ 0)))

  -- the next stamp
  module _ (left : k < length times) {r : Stamp} (found : StampOf s store k r) {t : ℤ} (is : t ≡ get_or times k (pos 0)) where
    -- it is in its place, as there are bytes to write
    placed : in_place (length s - from) (length s - r.at) r.long (shown_length t) ≡ true
    placed = go _ refl
      where
        go : (b : Bool) → in_place (length s - from) (length s - r.at) r.long (shown_length t) ≡ b → b ≡ true
        go true e = refl
        go false e = let p = misplaced filling.going left found is e in never (cc held.is)

    pub stamp_held : Sound s from r (shown_length t)
    stamp_held = sound filling.going left found is placed

    abbrev run : List ℕ
    run = take (r.at - from) (drop from s)

    pub run_fits : (nat_abs t ≤ 999999999999999) × (to + length run + length (time_shown t) ≤ length room)
    run_fits =
        let short = front_short _ _ held.word (more filling.going left found is placed ∙ held.is) in
        let h : to + length run + length (time_shown t) ≤ length room₀ = omega (arith, simp length-append at short, filling.long, held.fits) in
        ((takes_some t (place_told placed).gets).size, rw as_long h)

    pub run_filled : {next to' : ℕ} {last : List ℕ} → Stored room to (run ++ time_shown t) to' last → Next store times (k + 1) next
        → Filling s store times room₀ last (r.at + r.long) to' next
    unfolding onward
    run_filled p n =
        record {
          going = onward filling.going left found is placed n;
          long = rw (p.ends, length-append) (omega (arith, filling.long));
          holds = stored_next _ p.holds;
        }

  -- no stamp left
  module _ (h : length times ≤ k) where
    all_run : take (length s - from) (drop from s) ≡ drop from s
    all_run = take_all (length s - from) (drop from s) (simp length-drop (omega arith))

    word_is : held.word ≡ filling.going.before ++ drop from s
    word_is = let e = all_told filling.going h in cc held.is

    pub last_fits : to + length (take (length s - from) (drop from s)) ≤ length room
    last_fits =
        let e = ap length word_is in
        rw (all_run, as_long) (omega (arith, simp length-append at e, filling.long, held.fits))

    pub filled : {last : List ℕ} → last ≡ sets room to (take (length s - from) (drop from s)) → last ≡ room_after (bytes_for s store times) room₀
    unfolding room_after
    filled e =
        let whole = filling.going.before ++ drop from s in
        let h : length whole ≤ length room₀ = rw word_is at held.fits in
        stored_next (drop from s) (rw all_run at e)
        ∙ rw (held.is, word_is, le-leb (length whole) (length room₀) h, ← zero-add (length whole)) (sets-eq whole room₀ 0 (rw zero-add h))
