-- A time and a signed number put into a room, by what the functions that write them tell.
use Rattle.std.specs.Prelude.{Result, Ok, Err}
use Prim.Native.Nat.{ℕ, ◌+◌, ◌/◌, ◌%◌, ◌≤◌}
use Rattle.std.specs.Result.{result_unwrap_or}
use mathlib.Core.Path.{◌≡◌, refl, sym, ◌∙◌}
use mathlib.Core.List.{List, ◌++◌, append_assoc}
use native.Mathlib.Numerals.{add-one}
use native.Mathlib.Omega.{arith}
use lib.ListN.{length, take, drop, take-append-drop}
use lib.IntN.{ℤ, pos, negsuc, nat_abs}
use borrow.Author.Tests.{le-leb, lt-leb}
use Rattle.paper.specs.Text.{bytes_of}
use Rattle.paper.specs.Forms.{time_shown}
use Rattle.forms.proofs.Back.{shown_short}
use Rattle.shown.specs.Writes.{TimePut}
use Rattle.shown.proofs.Outcomes.{put_at, put_no_room, put_no_time}
use Rattle.signed.specs.Codes.{code_of, decoded}
use Rattle.signed.proofs.Codes.{even, odd, code_back}
use Rattle.report.specs.Put.{Short}
use Rattle.report.specs.Report.{shown, named}
use Rattle.report.proofs.Puts.{then}
use Rattle.lines.specs.Parts.{stamp_shown, whole_shown}
use Rattle.shown.specs.declared.Unput.{Unput}

-- ---- a time

module _ (room : List ℕ) (at : ℕ) (z : ℤ) {y : ℤ} (same : y ≡ z) (wide : at + 17 ≤ length room) {r : Result ℕ Unput} {after : List ℕ}
    (told : TimePut room at y r after) where
  p : TimePut room at z r after
  p = rw same at told

  time_there : {end : ℕ} → r ≡ Ok end → Short 17 room at (stamp_shown z) end after
  unfolding stamp_shown
  time_there {end} e =
      let s = put_at room at z p e in
      rw (le-leb (nat_abs z) 999999999999999 s.size)
      (record {
        put = record { ends = s.ends; fits = s.fits; holds = s.holds ∙ append_assoc (take at room) (time_shown z) (drop end room) };
        short = omega (arith, s.ends, shown_short z);
      })

  time_fits : r ≡ Err Unput.NoRoom → Short 17 room at (stamp_shown z) at after
  time_fits e = absurd (omega (arith, wide, (put_no_room room at z p e).0, shown_short z))

  time_formless : r ≡ Err Unput.NoTime → Short 17 room at (stamp_shown z) at after
  unfolding stamp_shown
  time_formless e =
      let n = put_no_time room at z p e in
      rw (lt-leb (nat_abs z) 999999999999999 n.0)
      (record {
        put = record { ends = omega arith; fits = omega (arith, wide); holds = n.1 ∙ sym (take-append-drop at room) };
        short = omega arith;
      })

  pub time_put_there : {end : ℕ} → end ≡ result_unwrap_or r at → Short 17 room at (stamp_shown z) end after
  time_put_there {end} h = go r refl
    where
      go : (x : Result ℕ Unput) → r ≡ x → Short 17 room at (stamp_shown z) end after
      go (Ok n) e = let q : end ≡ n = h ∙ rw e in rw q (time_there e)
      go (Err Unput.NoRoom) e = let q : end ≡ at = h ∙ rw e in rw q (time_fits e)
      go (Err Unput.NoTime) e = let q : end ≡ at = h ∙ rw e in rw q (time_formless e)

-- ---- a signed number

module _ (z : ℤ) {y : ℤ} (same : y ≡ z) {code : ℕ} (e : code ≡ code_of y) where
  back : decoded code ≡ z
  back = rw (e, same) (code_back z)

  pub plain : code % 2 ≡ 0 → shown (code / 2) ≡ whole_shown z
  unfolding whole_shown
  plain h = let q : pos (code / 2) ≡ z = even code h ∙ back in rw (← q)

  pub negative : (code % 2 ≡ 0 → ⊥) → named (bytes_of "-") (code / 2 + 1) ≡ whole_shown z
  unfolding whole_shown
  negative h = let q : negsuc (code / 2) ≡ z = odd code h ∙ back in rw (← q, add-one (code / 2))

module _ {room : List ℕ} {at : ℕ} {text other : List ℕ} {end : ℕ} {after : List ℕ} where
  pub as_shown : {most : ℕ} (wider : ℕ) → most ≤ wider → text ≡ other → Short most room at text end after → Short wider room at other end after
  as_shown wider h e s = record { put = rw e at s.put; short = omega (arith, h, s.short) }

-- one text behind another
pub behind : {room : List ℕ} {at : ℕ} {text : List ℕ} {end : ℕ} {after : List ℕ} {first second : ℕ} {more : List ℕ} {last : ℕ} {filled : List ℕ}
    (most : ℕ) → first + second ≤ most
    → Short first room at text end after → Short second after end more last filled → Short most room at (text ++ more) last filled
behind most h a b = record { put = then a.put b.put; short = omega (arith, h, a.short, b.short) }
