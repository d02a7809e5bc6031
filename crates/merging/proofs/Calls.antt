-- The calls: what they come to by what was heard, by what both traces came to and by the room; and that told in numbers.
use Rattle.std.specs.Prelude.{Option, Result, Some, None, Ok, Err, ok_or}
use Rattle.std.specs.Result.{IsErrAnd}
use Rattle.std.proofs.lemmas.Result.{err_from_is_err_and}
use Prim.Native.Nat.{ℕ, ◌+◌, ◌≤◌, ◌<◌}
use mathlib.Core.Path.{◌≡◌, refl, sym, ◌∙◌, ap}
use mathlib.Core.Bool.{Bool, true, false}
use mathlib.Core.List.{List}
use lib.ListN.{length}
use borrow.Author.Tests.{lt-ltb, le-ltb}
use Rattle.paper.specs.Numbers.{number_of}
use Rattle.paper.specs.Columns.{nowhere}
use Rattle.paper.specs.Answer.{choice_of}
use Rattle.paper.specs.Merging.{merged_bytes, read_alone, stop_alone, share_one, tally_of, lines_in, on_readings, on_second_trace, on_first_trace, both_of, Merging, Mergence, unmerged, joined, on_merged, on_both, on_heard, join, which_of, merged_of, merge}
use Rattle.paper.specs.declared.Choice.{Choice}
use Rattle.paper.specs.declared.Fault.{Fault}
use Rattle.paper.specs.declared.Joined.{Joined}
use Rattle.paper.specs.declared.Merged.{Merged}
use Rattle.paper.specs.declared.Site.{Site}
use Rattle.paper.specs.declared.Tally.{Tally}
use Rattle.paper.specs.declared.Which.{Which}
use Rattle.paper.specs.declared.Which.TheVariants.{Neither}
use Rattle.forms.proofs.Tests.{never}
use Rattle.reading.proofs.Lines.{few_lines}
use Rattle.merges.specs.Parts.{alone}
use Rattle.merges.proofs.Alone.{alone_reading, read_of, alone_ended, alone_counted}
use Rattle.merges.proofs.Lines.{merged_length}
use Rattle.merging.specs.Call.{merging, mergence, outcome, Counted}
use Rattle.merging.specs.Weave.{room_after}
use Rattle.paper.specs.declared.Refusal.{Refusal}
use Rattle.paper.specs.declared.Unmerged.{Unmerged}

-- ---- what both traces came to

-- a trace that 4 to 12 do not refuse
counted : (n : ℕ) (s : List ℕ) (choice : Choice) → choice_of n ≡ Some choice → stop_alone choice s ≡ Ok tt → Counted s (tally_of (read_alone choice s))
unfolding alone
counted n s choice chosen e =
    let read = read_of n s choice chosen e in
    let many = rw (alone_reading n s choice) at (alone_counted n s choice read) in
    record { whole = alone_ended n s choice read; short = read.begun.short; few = rw many (few_lines s) }

-- where they may be merged, neither is refused
module _ (choice : Choice) (first second : List ℕ) (a b : Tally) where
  record Both-read : Type 0 where
    first_ends : stop_alone choice first ≡ Ok tt
    second_ends : stop_alone choice second ≡ Ok tt
    first_tally : a ≡ tally_of (read_alone choice first)
    second_tally : b ≡ tally_of (read_alone choice second)

  both_read : Ok (a, b) ≡ both_of choice first second → Both-read
  unfolding both_of on_first_trace on_second_trace on_readings
  both_read e = go (stop_alone choice first) refl (stop_alone choice second) refl (share_one (read_alone choice first).entries (read_alone choice second).entries) refl e
    where
      go : (x : Result Unit Refusal) → stop_alone choice first ≡ x → (y : Result Unit Refusal) → stop_alone choice second ≡ y
          → (t : Bool) → share_one (read_alone choice first).entries (read_alone choice second).entries ≡ t
          → Ok (a, b) ≡ both_of choice first second → Both-read
      go (Err refusal) p y q t r e = let no_first = rw p at e in never (cc)
      go (Ok u) p (Err refusal) q t r e = let no_second = rw (p, q) at e in never (cc)
      go (Ok u) p (Ok v) q true r e = let none = rw (p, q, r) at e in never (cc)
      go (Ok u) p (Ok v) q false r e =
          let told : ◌≡◌ {A = Result (Tally × Tally) Unmerged} (Ok (a, b)) (Ok (tally_of (read_alone choice first), tally_of (read_alone choice second))) = rw (p, q, r) at e in
          let both : ◌≡◌ {A = Tally × Tally} (a, b) (tally_of (read_alone choice first), tally_of (read_alone choice second)) = cc in
          record {
            first_ends = p;
            second_ends = q;
            first_tally = ap (λ (t : Tally × Tally). t.0) both;
            second_tally = ap (λ (t : Tally × Tally). t.1) both;
          }

-- ---- what was heard

-- where a `?` behind `ok_or` goes
pub left : {T A : Type 0} (r : Result T Unmerged) {o : Option A} {why given : Unmerged} → IsErrAnd r (λ e. e ≡ given) → o ≡ None
    → ◌≡◌ {A = Result A Unmerged} (Err given) (ok_or o why) → r ≡ Err why
left {A = A} r {why = why} {given = given} a n e =
    let p = err_from_is_err_and r a in
    let q : ◌≡◌ {A = Result A Unmerged} (Err given) (Err why) = rw n at e in
    let same : given ≡ why = cc in
    p.1 ∙ ap Err (p.2 ∙ same)

module _ (n : ℕ) (h : Option Choice) (heard : h ≡ choice_of n) (first second room : List ℕ) where
  pub join_unheard : h ≡ None → {site : Site} → site ≡ nowhere
      → mergence (Err (record { fault = Fault.BadChoice; which = Neither; site = site })) room ≡ join (merging first second n room)
  unfolding join on_heard unmerged
  join_unheard e s = rw (← heard, e, s)

  module _ (choice : Choice) (is : h ≡ Some choice) where
    chosen : choice_of n ≡ Some choice
    chosen = sym heard ∙ rw is

    join_heard : join (merging first second n room) ≡ on_both (merging first second n room) (both_of choice first second)
    unfolding join on_heard
    join_heard = rw chosen

    module _ {r : Result (Tally × Tally) Unmerged} (reads : r ≡ both_of choice first second) where
      pub join_unfit : (why : Unmerged) → r ≡ Err why → mergence (Err why) room ≡ join (merging first second n room)
      unfolding on_both unmerged
      join_unfit why e = rw (join_heard, ← reads, e)

      module _ (a b : Tally) (apart : r ≡ Ok (a, b)) where
        pub join_counted : Counted first a × Counted second b
        join_counted =
            let both = both_read choice first second a b (sym apart ∙ reads) in
            (rw both.first_tally (counted n first choice chosen both.first_ends), rw both.second_tally (counted n second choice chosen both.second_ends))

        -- the choice is not looked at any more
        pub join_apart : {m : Mergence} → m ≡ on_merged (merging first second 0 room) a b (merged_bytes first second) → m ≡ join (merging first second n room)
        unfolding on_both on_merged unmerged joined
        join_apart e = e ∙ rw (join_heard, ← reads, apart)

-- ---- "then 16"

module _ {first second : List ℕ} {a b : Tally} (ca : Counted first a) (cb : Counted second b) (room : List ℕ) where
  long : length (merged_bytes first second) ≡ length first + length second
  long = merged_length first second ca.whole cb.whole

  pub put_short : length room < length first + length second → {site : Site} → site ≡ nowhere
      → mergence (Err (record { fault = Fault.NoRoom; which = Neither; site = site })) room ≡ on_merged (merging first second 0 room) a b (merged_bytes first second)
  unfolding on_merged unmerged
  put_short h s = rw (lt-ltb (length room) (length (merged_bytes first second)) (rw long h), s)

  pub put_joined : length first + length second ≤ length room → {room₁ : List ℕ} → room₁ ≡ room_after (merged_bytes first second) room
      → mergence (Ok (record { lines = lines_in a + lines_in b; written = length first + length second; first = a; second = b })) room₁
      ≡ on_merged (merging first second 0 room) a b (merged_bytes first second)
  unfolding on_merged joined room_after
  put_joined h puts = rw (le-ltb (length room) (length (merged_bytes first second)) (rw long h), puts, ← long)

-- ---- in numbers

module _ {joint : Result Joined Unmerged} where
  pub told_refused : (fault : Fault) (w : Which) (site : Site) → joint ≡ Err (record { fault = fault; which = w; site = site }) → {number which : ℕ} → number ≡ number_of fault → which ≡ which_of w
      → ◌≡◌ {A = Merged} (record { number = number; which = which; line = site.line; column = site.column; written = 0 }) (merged_of joint)
  unfolding merged_of
  told_refused fault w site e p q = rw (e, p, q)

  pub told_joined : (all : Joined) → joint ≡ Ok all
      → ◌≡◌ {A = Merged} (record { number = 0; which = 0; line = 0; column = 0; written = all.written }) (merged_of joint)
  unfolding merged_of
  told_joined all e = rw e

pub in_numbers : (i : Merging) (joint : Result Joined Unmerged) {room : List ℕ} → mergence joint room ≡ join i → {answer : Merged} → answer ≡ merged_of joint → outcome answer room ≡ merge i
unfolding merge
in_numbers i joint e t = rw (← e, t)
