-- The size of a whole number and of a time, from the digits that were read.
use Rattle.std.specs.Prelude.{Option, Some, None}
use Prim.Native.Nat.{ℕ, ◌+◌, ◌*◌, ◌≤◌}
use mathlib.Core.Path.{◌≡◌, refl, sym, ap, subst, ◌∙◌}
use mathlib.Core.List.{List, ◌∷◌, ◌++◌, append_assoc}
use native.Mathlib.Omega.{arith}
use lib.ListN.{length, drop, length-append}
use lib.Seq.{take_at, drop-append-add, get_or_at}
use Rattle.paper.specs.Forms.{whole_size, time_size}
use Rattle.forms.specs.Sizes.{AtMost, whole_part}
use Rattle.forms.proofs.Runs.{onward}
use Rattle.forms.proofs.Wholes.{whole_short, part_range}
use Rattle.forms.proofs.Times.{point_at, in_parts}
use Rattle.quick.specs.Words.{Word, SizeAt}
use Rattle.quick.specs.Stamps.{Micros, MicrosAt}

-- ---- what an answer tells

pub sized : (size : List ℕ → Option ℕ) (most : ℕ) (s : List ℕ) (at : ℕ) (r : Option (ℕ × ℕ)) → SizeAt size most s at r → (v end : ℕ) → r ≡ Some (v, end)
    → Word size Some most s at v end
unfolding SizeAt
sized size most s at r t v end e = subst (SizeAt size most s at) e t

pub micros : (s : List ℕ) (at : ℕ) (r : Option ℕ) → MicrosAt s at r → (v : ℕ) → r ≡ Some v → Micros s at v
unfolding MicrosAt
micros s at r t v e = subst (MicrosAt s at) e t

pub word_end : {A B : Type 0} {reading : List ℕ → B} {good : A → B} {most : ℕ} {s : List ℕ} {at : ℕ} {v : A} {end : ℕ} → Word reading good most s at v end → end ≤ at + most
word_end r = omega (arith, r.long, r.few)

pub part_below : (s : List ℕ) (at v end : ℕ) → Word whole_part Some 9 s at v end → v ≤ 999999999
unfolding AtMost
part_below s at v end r = part_range r.word r.few v r.reads

-- ---- the size of a whole number, and of a time

pub whole_size_lem : (s : List ℕ) (at : ℕ) (z : Option (ℕ × ℕ)) → SizeAt whole_part 9 s at z → SizeAt whole_size 9 s at z
unfolding SizeAt
whole_size_lem s at (Some (v, end)) r =
    record { word = r.word; is = r.is; reads = whole_short r.word r.few ∙ r.reads; long = r.long; few = r.few }
whole_size_lem s at None r = tt

module _ (a b : List ℕ) (la : length a ≤ 9) (lb : length b ≡ 6) where
  point_at_lem : point_at (a ++ (46 ∷ b)) ≡ length a
  point_at_lem = rw length-append (omega arith)

  parts : time_size (a ++ (46 ∷ b)) ≡ onward (whole_part a) b
  parts =
      in_parts (a ++ (46 ∷ b)) (rw length-append (omega arith)) (rw point_at_lem (get_or_at a 46 b 0 (length a) refl))
      ∙ rw (point_at_lem, take_at a (46 ∷ b) (length a) refl, drop-append-add a (46 ∷ b) 1)

pub time_here : (s : List ℕ) (at v end m : ℕ) → Word whole_part Some 9 s at v end → Micros s end m → Word time_size Some 16 s at (v * 1000000 + m) (end + 7)
unfolding onward
time_here s at v end m r t =
    record {
      word = r.word ++ (46 ∷ t.word);
      is = r.is ∙ ap (λ (l : List ℕ). r.word ++ l) t.is ∙ sym (append_assoc r.word (46 ∷ t.word) (drop (end + 7) s));
      reads = parts r.word t.word r.few t.long ∙ rw r.reads (t.reads v);
      long = rw length-append (omega (arith, r.long, t.long));
      few = rw length-append (omega (arith, r.few, t.long));
    }
