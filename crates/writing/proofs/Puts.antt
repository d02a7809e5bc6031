-- Words stored in the room, one behind the other.
use Rattle.std.specs.Prelude.{Result, Ok}
use Prim.Native.Nat.{ℕ, ◌+◌, ◌-◌, ◌≤◌}
use mathlib.Core.Path.{◌≡◌, sym, ap, ◌∙◌}
use mathlib.Core.List.{List, ◌++◌, append_assoc}
use native.Mathlib.Omega.{arith}
use borrow.Author.Tests.{le-leb}
use lib.ListN.{length, take, drop, length-append}
use lib.Seq.{sets, sets-eq, length-sets, drop-drop}
use lib.IntN.{ℤ, nat_abs}
use Rattle.paper.specs.Forms.{time_shown}
use Rattle.shown.specs.Writes.{put_of, time_put, TimePut}
use Rattle.shown.proofs.Stores.{sets_append}
use Rattle.shown.proofs.Outcomes.{put_at}
use Rattle.writing.specs.Inner.{Stored}
use Rattle.shown.specs.declared.Unput.{Unput}

-- a word copied over the part of the room behind `at` that is as long
pub word_put : (room word : List ℕ) (at n : ℕ) {part : List ℕ} → at + length word ≤ length room → n ≡ at + length word - at → part ≡ word
    → take at room ++ (part ++ drop n (drop at room)) ≡ sets room at word
word_put room word at n fits is e =
    let long : n ≡ length word = omega arith in
    rw (e, long, drop-drop, sets-eq word room at fits) (sym (append_assoc (take at room) word _))

-- a time behind a word, where the code may have read it back from its bits
module _ (room word : List ℕ) (at : ℕ) {mid last : List ℕ} {z u : ℤ} {r : Result ℕ Unput} (is : u ≡ z) (size : nat_abs z ≤ 999999999999999)
    (fits : at + length word + length (time_shown z) ≤ length room) (first : mid ≡ sets room at word) (puts : TimePut mid (at + length word) u r last) where
  as_long : length mid ≡ length room
  as_long = ap length first ∙ length-sets room at word

  pub time_put_lem : r ≡ Ok (at + length word + length (time_shown z))
  unfolding time_put put_of
  time_put_lem =
      puts.answer
      ∙ rw (is, as_long, le-leb (nat_abs z) 999999999999999 size, le-leb (at + length word + length (time_shown z)) (length room) fits)

  pub run_put : {end : ℕ} → end ≡ at + length word + length (time_shown z) → Stored room at (word ++ time_shown z) end last
  run_put {end} e =
      let p = put_at mid (at + length word) z (rw is at puts) time_put_lem in
      let holds : last ≡ sets mid (at + length word) (time_shown z) = p.holds ∙ sym (sets-eq (time_shown z) mid (at + length word) (rw as_long fits)) in
      record { ends = rw length-append (omega (arith, e)); holds = holds ∙ rw (first, sets_append word (time_shown z) room at) }
