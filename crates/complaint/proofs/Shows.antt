-- A complaint put into a room: a word made visible byte by byte, as much of it as is shown, and the lines.
use Rattle.std.specs.Prelude.{Result}
use Prim.Native.Nat.{ℕ, zero, suc, ◌+◌, ◌-◌, ◌≤◌, ◌<◌, min}
use mathlib.Core.Path.{◌≡◌, refl, sym, ap}
use mathlib.Core.List.{List, [], ◌∷◌, ◌++◌}
use native.Mathlib.Omega.{arith}
use native.Mathlib.Numerals.{add-one}
use lib.ListN.{length, take, drop, get_or, set, length-append, length-take, length-drop, take-append-drop}
use lib.Seq.{take-nil, take-suc, take_all, set_split}
use Rattle.report.specs.Put.{Put}
use Rattle.report.proofs.Puts.{then, counted}
use Rattle.paper.specs.Text.{bytes_of}
use Rattle.named.specs.Values.{written}
use Rattle.named.specs.Parts.{cut}
use Rattle.flags.specs.Spans.{plan_in}
use Rattle.complaint.specs.Complaint.{visible, all_visible, word_shown, complaint_of, Complained}
use Rattle.complaint.specs.Parts.{ShownPart, place_of}
use Rattle.named.specs.declared.Span.{Span}
use Rattle.named.specs.declared.Name.{Name}
use Rattle.named.specs.declared.Name.TheVariants.{Choice, Trace, Table, Levels, Statistics, Share, Out}
use Rattle.flags.specs.declared.Lack.{Lack}
use Rattle.flags.specs.declared.Wishes.{Wishes}

-- ---- a word, byte by byte

visible_append : (a b : List ℕ) → all_visible (a ++ b) ≡ all_visible a ++ all_visible b
unfolding all_visible
visible_append [] b = refl
visible_append (x ∷ a) b = ap (◌∷◌ (visible x)) (visible_append a b)

pub put_long : {room text after : List ℕ} {at end : ℕ} → Put room at text end after → length after ≡ length room
put_long p = rw (p.holds, length-append, length-append, length-take, length-drop) (omega (arith, p.ends, p.fits))

pub byte_put : (room : List ℕ) (at b : ℕ) → at < length room → Put room at (b ∷ []) (at + 1) (set room at b)
byte_put room at b h = record { ends = refl; fits = omega arith; holds = rw add-one (set_split room at b h) }

-- nothing yet
pub visible_none : (room word : List ℕ) (at : ℕ) → at + length word ≤ length room → Put room at (all_visible (take 0 word)) (at + 0) room
unfolding all_visible
visible_none room word at h =
    let e : at + 0 ≡ at = omega arith in
    record { ends = refl; fits = omega arith; holds = rw e (sym (take-append-drop at room)) }

module _ {room : List ℕ} (word : List ℕ) {now : List ℕ} (at i : ℕ) (fits : at + length word ≤ length room) (put : Put room at (all_visible (take i word)) (at + i) now) where
  pub visible_on : {b : ℕ} → i < length word → b ≡ visible (get_or word i 0) → Put room at (all_visible (take (i + 1) word)) (at + (i + 1)) (set now (at + i) b)
  unfolding all_visible
  visible_on {b} h e =
      let one = byte_put now (at + i) b (omega (arith, put_long put)) in
      let more : all_visible (take (i + 1) word) ≡ all_visible (take i word) ++ (b ∷ []) = rw (add-one, take-suc word i 0 h, visible_append, e) in
      let there : at + (i + 1) ≡ at + i + 1 = omega arith in
      rw (more, there) (then put one)

  pub visible_all : i ≡ length word → Put room at (all_visible word) (at + length word) now
  visible_all e = rw (take_all i word (omega arith), e) at put

-- ---- as much of a word as is shown

take_both : (l : List ℕ) (n a b : ℕ) → min n (length l) ≡ min a (min b (length l)) → take n l ≡ take a (take b l)
take_both [] n a b h = rw (take-nil {A = ℕ} n, take-nil {A = ℕ} b) (sym (take-nil a))
take_both (x ∷ l) zero zero b h = refl
take_both (x ∷ l) zero (suc a) zero h = refl
take_both (x ∷ l) zero (suc a) (suc b) h = absurd (omega arith)
take_both (x ∷ l) (suc n) zero b h = absurd (omega arith)
take_both (x ∷ l) (suc n) (suc a) zero h = absurd (omega arith)
take_both (x ∷ l) (suc n) (suc a) (suc b) h = ap (◌∷◌ x) (take_both l n a b (omega arith))

shown_least : (n k d : ℕ) → n ≡ min (min k d) 200 → min n d ≡ min 200 (min k d)
shown_least n k d e = omega arith

least_left : (from to long end : ℕ) → end ≡ min to long → end - from ≡ min (to - from) (long - from)
least_left from to long end e = omega arith

same_left : (from n : ℕ) → from + n - from ≡ n
same_left from n = omega arith

same_or_more : (from n : ℕ) → from ≤ from + n
same_or_more from n = omega arith

none_both : (l : List ℕ) (a b : ℕ) → min a (min b (length l)) ≡ 0 → [] ≡ take a (take b l)
none_both l a b h = take_both l 0 a b (omega arith)

module _ (line : List ℕ) (span : Span) {end : ℕ} (ends : end ≡ min span.to (length line)) where
  pub none_shown : end ≤ span.from → ShownPart line span (record { from = end; to = end })
  unfolding cut
  none_shown h =
      let zero_long : end - end ≡ 0 = omega arith in
      record {
        is = rw zero_long (none_both (drop span.from line) 200 (span.to - span.from) (rw length-drop (omega arith)));
        within = record { ordered = omega arith; inside = omega arith };
        short = omega arith;
      }

  pub part_shown : {n : ℕ} → span.from < end → n ≡ min (end - span.from) 200 → ShownPart line span (record { from = span.from; to = span.from + n })
  unfolding cut
  part_shown {n} h e =
      let inside : span.from + n ≤ length line = omega arith in
      let short : span.from + n ≤ span.from + 200 = omega arith in
      let there : end - span.from ≡ min (span.to - span.from) (length line - span.from) = least_left span.from span.to (length line) end ends in
      let least = shown_least n (span.to - span.from) (length line - span.from) (rw there at e) in
      let long : span.from + n - span.from ≡ n = same_left span.from n in
      record {
        is = rw long (take_both (drop span.from line) n 200 (span.to - span.from) (rw length-drop least));
        within = record { ordered = same_or_more span.from n; inside = inside };
        short = short;
      }

-- ---- the lines

visible_long : (word : List ℕ) → length (all_visible word) ≡ length word
unfolding all_visible
visible_long [] = refl
visible_long (b ∷ word) = ap suc (visible_long word)

-- behind the head and what is shown of a word there is room for the line's end
pub room_left : {room between after head line : List ℕ} {a b : ℕ} (span part : Span) → Put room 0 head a between → Put between a (all_visible (cut line part)) b after
    → ShownPart line span part → length head + 201 ≤ length room → b < length after
unfolding cut
room_left {line = line} span part p q shown long =
    let many : length (take (part.to - part.from) (drop part.from line)) ≤ 200 = rw length-take (omega (arith, shown.short)) in
    let as_many = visible_long (take (part.to - part.from) (drop part.from line)) in
    omega (arith, p.ends, q.ends, put_long p, put_long q)

-- a name is shown as it is
pub name_shown : (name : Name) → word_shown (cut (bytes_of "--choice--trace--table--levels--statistics--share--out") (place_of name)) ≡ written name
unfolding word_shown all_visible visible cut bytes_of place_of written
name_shown Choice = refl
name_shown Trace = refl
name_shown Table = refl
name_shown Levels = refl
name_shown Statistics = refl
name_shown Share = refl
name_shown Out = refl

module _ {line : List ℕ} {plan : Result Wishes Lack} {room : List ℕ} {end : ℕ} {after : List ℕ} where
  pub complains : {text : List ℕ} → text ≡ complaint_of (plan_in line plan) → Put room 0 text end after → Complained line plan room end after
  complains e p = record { put = rw e at p; counts = counted p }

pub says_nothing : {line : List ℕ} {plan : Result Wishes Lack} (room : List ℕ) → [] ≡ complaint_of (plan_in line plan) → Complained line plan room 0 room
says_nothing room e =
    let p : Put room 0 [] 0 room = record { ends = refl; fits = omega arith; holds = refl } in
    complains e p
