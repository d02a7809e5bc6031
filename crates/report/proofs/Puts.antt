-- A text put into a room: one copied there, and one behind another.
use Prim.Native.Nat.{ℕ, ◌+◌, ◌-◌, ◌≤◌}
use mathlib.Core.Path.{◌≡◌, sym, ◌∙◌}
use mathlib.Core.List.{List, [], ◌++◌, append-nil, append_assoc}
use native.Mathlib.Omega.{arith}
use lib.ListN.{length, take, drop, length-drop, length-append}
use lib.Seq.{take_all, take-length, drop-length, drop-drop, length-take-le, take_at, drop-append-add}
use borrow.Rule.Slice.PartMut.{put_mid, post_of, Post-is}
use Rattle.io.specs.Counts.{IsPrefixLen}
use Rattle.report.specs.Put.{Put}

module _ (room word rest : List ℕ) (at n : ℕ) (h : at + length word ≤ length room) (e : n ≡ length word) (q : rest ≡ take (length word) word ++ drop (length word) (take (length room - at) (drop at room))) where
  pub copied : Put room at word (at + n) (put_mid at (length room - at) room rest)
  copied =
      let p : post_of at (length room - at) room ≡ [] = Post-is at (length room) room (omega arith) ∙ drop-length room in
      let t : take (length room - at) (drop at room) ≡ drop at room = take_all (length room - at) (drop at room) (simp length-drop (omega arith)) in
      record { ends = rw e; fits = omega arith; holds = simp (p, q, t, e, take-length, drop-drop, append-nil) }

module _ {room : List ℕ} {at : ℕ} {a : List ℕ} {mid : ℕ} {between : List ℕ} (p : Put room at a mid between) where
  front_length : length (take at room ++ a) ≡ mid
  front_length = rw (length-append, length-take-le at room (omega (arith, p.fits, p.ends))) (sym p.ends)

  in_two : between ≡ (take at room ++ a) ++ drop mid room
  in_two = p.holds ∙ sym (append_assoc (take at room) a (drop mid room))

  pub front : take mid between ≡ take at room ++ a
  front = rw in_two (take_at (take at room ++ a) (drop mid room) mid front_length)

  -- the room stays as long as it was
  pub as_long : length between ≡ length room
  as_long = rw (in_two, length-append, front_length, length-drop) (omega (arith, p.fits))

  pub counted : IsPrefixLen mid between
  counted =
      let h : mid ≤ length between = omega (arith, p.fits, as_long) in
      (h, sym (length-take-le mid between h))

  -- a second text behind the first: both are one text
  module _ {b : List ℕ} {end : ℕ} {after : List ℕ} (q : Put between mid b end after) where
    behind : drop end between ≡ drop end room
    behind =
        let e : end ≡ length (take at room ++ a) + length b = rw front_length q.ends in
        rw (in_two, e, drop-append-add, drop-drop, front_length)

    pub then : Put room at (a ++ b) end after
    then =
        record {
          ends = rw length-append (omega (arith, p.ends, q.ends));
          fits = omega (arith, q.fits, as_long);
          holds = q.holds ∙ rw (front, behind) (simp append_assoc);
        }
