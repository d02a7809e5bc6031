-- The loops over the moved records: what both passes know at their heads, and a stamp more.
use Rattle.std.specs.Prelude.{Some, None}
use Prim.Native.Nat.{ℕ, ◌+◌, ◌-◌, ◌≤◌, ◌<◌}
use mathlib.Core.Path.{◌≡◌, sym, ◌∙◌}
use mathlib.Core.List.{List, [], ◌∷◌, ◌++◌}
use mathlib.Core.Bool.{Bool, true, false}
use native.Mathlib.Omega.{arith}
use lib.ListN.{length, take, drop, get_or, length-append, length-drop, drop_of_length-le}
use lib.Seq.{drop-drop, length-take-le}
use lib.IntN.{ℤ, pos}
use Rattle.paper.specs.Forms.{time_shown}
use Rattle.shown.specs.Writes.{shown_length}
use Rattle.stamps.specs.Stamps.{stamp_on, stamp_length, in_place, StampOf}
use Rattle.stamps.specs.declared.Stamp.{Stamp}
use Rattle.writing.specs.Patched.{moves_from, behind, patched, bytes_for}
use Rattle.writing.specs.Inner.{moves_at, Stops, Next}
use Rattle.writing.proofs.Patches.{behind_none, behind_some, behind_nothing, behind_both, takes_some, place_told, stamp_replaced, stamp_misplaced}

-- At the head: the bytes up to `from` with their stamps replaced, and what is left behind them is the whole.
pub record Going (s : List ℕ) (store : List ℕ) (times : List ℤ) (from k : ℕ) : Type 0 where
  pub inside : from ≤ length s
  pub stops : Stops store times k
  pub before : List ℕ
  pub whole : behind before (patched s store (drop from s) (moves_at store times k)) ≡ bytes_for s store times

-- A stamp in its place, for which there is a new one of `new` bytes.
pub record Sound (s : List ℕ) (from : ℕ) (r : Stamp) (new : ℕ) : Type 0 where
  pub begins : from ≤ r.at
  pub ends : r.at + r.long ≤ length s
  pub was : 8 ≤ r.long
  pub low : 8 ≤ new
  pub high : new ≤ 17

unfoldable pub going_start : (s : List ℕ) {store : List ℕ} {times : List ℤ} {k : ℕ} → Next store times 0 k → Going s store times 0 k
unfolding bytes_for
going_start s next =
    record { inside = omega arith; stops = next.stops; before = []; whole = behind_nothing _ ∙ rw (← next.skips) }

module _ {s : List ℕ} {store : List ℕ} {times : List ℤ} {from k : ℕ} (going : Going s store times from k) where
  -- no moved record left
  pub all_told : length times ≤ k → bytes_for s store times ≡ Some (going.before ++ drop from s)
  unfolding patched moves_from
  all_told h = sym going.whole ∙ rw (drop_of_length-le times h) (behind_some going.before (drop from s))

  -- the next one
  module _ (left : k < length times) {r : Stamp} (found : StampOf s store k r) {t : ℤ} (is : t ≡ get_or times k (pos 0)) where
    abbrev placed : Bool
    placed = in_place (length s - from) (length s - r.at) r.long (shown_length t)

    -- what is kept before it, and the new time
    abbrev word : List ℕ
    word = take (r.at - from) (drop from s) ++ time_shown t

    same_test : in_place (length (drop from s)) (length (stamp_on s store k)) (stamp_length store k) (shown_length t) ≡ placed
    same_test = rw (← found.place.from, ← found.long, length-drop from s, length-drop r.at s)

    next_move : behind going.before (patched s store (drop from s) (record { place = k; time = t } ∷ moves_at store times (k + 1))) ≡ bytes_for s store times
    next_move = rw (is, ← going.stops.moved left) going.whole

    pub misplaced : placed ≡ false → bytes_for s store times ≡ None
    misplaced e =
        sym next_move
        ∙ rw (stamp_misplaced s store (drop from s) k t (moves_at store times (k + 1)) (same_test ∙ e)) (behind_none going.before)

    module _ (e : placed ≡ true) where
      pub sound : Sound s from r (shown_length t)
      unfolding stamp_length
      sound =
          let p = place_told e in
          let old = takes_some _ (rw found.long at p.was) in
          let new = takes_some t p.gets in
          record {
            begins = omega (arith, going.inside, found.place.inside, p.begins, p.ends, p.was);
            ends = omega (arith, found.place.inside, p.ends);
            was = rw found.long old.low;
            low = new.low;
            high = new.high;
          }

      pub word_length : length word ≡ r.at - from + shown_length t
      word_length =
          let run : length (take (r.at - from) (drop from s)) ≡ r.at - from =
          length-take-le (r.at - from) (drop from s) (simp length-drop (omega (arith, found.place.inside)))
          in
          rw (length-append, run, (takes_some t (place_told e).gets).is)

      run_is : take (length (drop from s) - length (stamp_on s store k)) (drop from s) ≡ take (r.at - from) (drop from s)
      run_is =
          let n : length s - from - (length s - r.at) ≡ r.at - from = omega (arith, found.place.inside, sound.begins) in
          rw (← found.place.from, length-drop from s, length-drop r.at s, n)

      rest_is : drop (stamp_length store k) (stamp_on s store k) ≡ drop (r.at + r.long) s
      rest_is = rw (← found.place.from, ← found.long) (drop-drop r.long r.at s)

      pub more : behind (going.before ++ word) (patched s store (drop (r.at + r.long) s) (moves_at store times (k + 1))) ≡ bytes_for s store times
      more =
          sym (behind_both going.before word _)
          ∙ rw (← run_is, ← rest_is, ← stamp_replaced s store (drop from s) k t (moves_at store times (k + 1)) (same_test ∙ e)) next_move

      unfoldable pub onward : {next : ℕ} → Next store times (k + 1) next → Going s store times (r.at + r.long) next
      onward n = record { inside = sound.ends; stops = n.stops; before = going.before ++ word; whole = rw (← n.skips) more }
