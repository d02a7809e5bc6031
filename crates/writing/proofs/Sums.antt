-- The loop that sums: the written trace is as much longer than the trace as the new stamps go beyond the old ones.
use Rattle.std.specs.Prelude.{Some, None}
use Prim.Native.Nat.{ℕ, ◌+◌, ◌-◌, ◌*◌, ◌≤◌, ◌<◌}
use mathlib.Core.Path.{◌≡◌, refl, sym, ◌∙◌}
use mathlib.Core.List.{List}
use mathlib.Core.Bool.{Bool, true, false, not}
use native.Mathlib.Omega.{arith}
use borrow.Author.Tests.{not-true, not-false}
use lib.ListN.{length, get_or, length-append, length-drop}
use lib.IntN.{ℤ, pos}
use Rattle.shown.specs.Writes.{shown_length}
use Rattle.stamps.specs.Stamps.{in_place, StampOf}
use Rattle.stamps.specs.declared.Stamp.{Stamp}
use Rattle.writing.specs.Patched.{bytes_for}
use Rattle.writing.specs.Inner.{Next, Changed, changed, unfit}
use Rattle.writing.proofs.Going.{Going, Sound, going_start, all_told, misplaced, sound, word_length, onward}

pub record Summing (s : List ℕ) (store : List ℕ) (times : List ℤ) (from gained lost k : ℕ) : Type 0 where
  pub going : Going s store times from k
  pub sum : length going.before + lost ≡ from + gained
  pub less : lost ≤ from
  pub more : gained ≤ 9 * k

pub summing_start : (s : List ℕ) {store : List ℕ} {times : List ℤ} {k : ℕ} → Next store times 0 k → Summing s store times 0 0 0 k
unfolding going_start
summing_start s next = record { going = going_start s next; sum = refl; less = omega arith; more = omega arith }

module _ {s : List ℕ} {store : List ℕ} {times : List ℤ} {from gained lost k : ℕ} (summing : Summing s store times from gained lost k) where
  pub summed : length times ≤ k → Changed s (bytes_for s store times) (Some (gained, lost))
  summed h =
      changed {gained = gained} {lost = lost} (all_told summing.going h)
      (simp (length-append, length-drop) (omega (arith, summing.sum, summing.going.inside)))
      (omega (arith, summing.less, summing.going.inside))

  -- the next stamp, and the test whether it is in its place
  module _ (left : k < length times) {r : Stamp} (found : StampOf s store k r) {t : ℤ} (is : t ≡ get_or times k (pos 0)) {new : ℕ} (takes : new ≡ shown_length t)
      {ok : Bool} (told : ok ≡ in_place (length s - from) (length s - r.at) r.long new) where
    test : {b : Bool} → ok ≡ b → in_place (length s - from) (length s - r.at) r.long (shown_length t) ≡ b
    test e = rw takes at (sym told ∙ e)

    pub not_placed : not ok ≡ true → Changed s (bytes_for s store times) None
    not_placed e = unfit (misplaced summing.going left found is (test (not-true ok e)))

    module _ (e : not ok ≡ false) where
      placed : in_place (length s - from) (length s - r.at) r.long (shown_length t) ≡ true
      placed = test (not-false ok e)

      pub stamp_sound : Sound s from r new
      stamp_sound = rw takes (sound summing.going left found is placed)

      pub summing_next : {next : ℕ} → Next store times (k + 1) next → Summing s store times (r.at + r.long) (gained + (new - 8)) (lost + (r.long - 8)) next
      unfolding onward
      summing_next n =
          let p = stamp_sound in
          let long = word_length summing.going left found is placed in
          record {
            going = onward summing.going left found is placed n;
            sum = rw (length-append, long) (omega (arith, summing.sum, takes));
            less = omega (arith, summing.less);
            more = omega (arith, summing.more, n.low);
          }
