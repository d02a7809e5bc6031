-- The byte behind a number, and behind a text.
use Rattle.std.specs.Prelude.{Option, Some, None}
use Prim.Native.Nat.{ℕ, ◌+◌, ◌-◌, ◌≤◌, ◌<◌}
use mathlib.Core.Path.{◌≡◌, refl, sym, ap, subst, ◌∙◌}
use mathlib.Core.List.{List, ◌++◌}
use mathlib.Core.Bool.{Bool, true, false, cond, not}
use native.Mathlib.Omega.{arith}
use lib.ListN.{length, get_or, take, drop, take-append-drop}
use lib.Seq.{drop-drop}
use lib.IntN.{ℤ, pos}
use lib.Dec.{eqb}
use borrow.Author.Tests.{eq-eqb, ne_eqb, eqb-true}
use Rattle.paper.specs.Forms.{is_digit, whole_of, whole_size, text_of}
use Rattle.forms.proofs.Texts.{same_self}
use Rattle.quick.specs.Words.{SizeAt, NumberAt, FieldAt, signed_by, Inside, stopped_by}
use Rattle.quick.proofs.Runs.{here, alone, a_digit}
use Rattle.quick.proofs.Sizes.{word_end, whole_size_lem}
use Rattle.quick.proofs.Signs.{behind_none}

module _ (form : List ℕ → Option ℤ) (most : ℕ) (s : List ℕ) (at : ℕ) where
  pub inside : (x : Option (ℤ × ℕ)) → at + most < length s → NumberAt form most s at x → Inside s x
  unfolding NumberAt Inside
  inside (Some (v, end)) h t = omega (arith, word_end t)
  inside None h t = tt

  pub stopped_here : (stop : ℕ) (x : Option (ℤ × ℕ)) → at + most < length s → NumberAt form most s at x → FieldAt form (most + 1) s at stop (stopped_by s stop x)
  unfolding NumberAt FieldAt stopped_by
  stopped_here stop None h t = tt
  stopped_here stop (Some (v, end)) h t = go (eqb (get_or s end 0) stop) refl
    where
      go : (b : Bool) → eqb (get_or s end 0) stop ≡ b → FieldAt form (most + 1) s at stop (cond b (Some (v, end + 1)) None)
      go false e = tt
      go true e = (
        record {
          word = t.word;
          is = t.is ∙ ap (λ (l : List ℕ). t.word ++ l) (here s end stop (omega (arith, word_end t)) (sym (eqb-true (get_or s end 0) stop e)));
          reads = t.reads;
          near = omega (arith, word_end t);
        },
        omega (arith, word_end t),
      )

pub inside_of : (s : List ℕ) (x : Option (ℤ × ℕ)) → Inside s x → (v : ℤ) (end : ℕ) → x ≡ Some (v, end) → end < length s
unfolding Inside
inside_of s x h v end e = subst (Inside s) e h

module _ (s : List ℕ) (stop : ℕ) (x : Option (ℤ × ℕ)) (end : ℕ) {v : ℤ} (is : x ≡ Some (v, end)) where
  pub stop_there : {u : ℤ} → u ≡ v → get_or s end 0 ≡ stop → Some (u, end + 1) ≡ stopped_by s stop x
  unfolding stopped_by
  stop_there same e = rw (is, eq-eqb (get_or s end 0) stop e, same)

  pub stop_not : (get_or s end 0 ≡ stop → ⊥) → None ≡ stopped_by s stop x
  unfolding stopped_by
  stop_not h = rw (is, ne_eqb (get_or s end 0) stop h)

-- one digit, and the byte behind it
pub digit_here : (s : List ℕ) (at b stop : ℕ) → at + 2 ≤ length s → b ≡ get_or s at 0 → not (is_digit b) ≡ false → get_or s (at + 1) 0 ≡ stop
    → FieldAt whole_of 11 s at stop (signed_by false (Some (b - 48, at + 2)))
unfolding FieldAt signed_by whole_of SizeAt NumberAt
digit_here s at b stop h e d k =
    let two : at + 1 + 1 ≡ at + 2 = omega arith in
    let z = whole_size_lem s at (Some (b - 48, at + 1)) (alone s at b (omega arith) e d) in
    let w = behind_none whole_size 9 s at (Some (b - 48, at + 1)) (λ q. omega (arith, e, a_digit b d)) z in (
      record {
        word = w.word;
        is = w.is ∙ ap (λ (l : List ℕ). w.word ++ l) (rw two at (here s (at + 1) stop (omega arith) (sym k)));
        reads = w.reads;
        near = h;
      },
      omega arith,
    )

pub wider : (form : List ℕ → Option ℤ) (most more : ℕ) (s : List ℕ) (at stop : ℕ) (r : Option (ℤ × ℕ)) → most ≤ more → FieldAt form most s at stop r → FieldAt form more s at stop r
unfolding FieldAt
wider form most more s at stop (Some (v, next)) h t = (t.0, omega (arith, t.1))
wider form most more s at stop None h t = tt

-- a text that was compared with the bytes from the cursor on
pub text_here : (s : List ℕ) (at : ℕ) (text : List ℕ) → take (at + length text - at) (drop at s) ≡ text
    → NumberAt (text_of text) (length text) s at (Some (pos 0, at + length text))
unfolding NumberAt text_of
text_here s at text same =
    let many : at + length text - at ≡ length text = omega arith in
    let there : take (length text) (drop at s) ≡ text = rw many at same in
    record {
      word = text;
      is = rw (← drop-drop (length text) at s) (sym (ap (λ (l : List ℕ). l ++ drop (length text) (drop at s)) (sym there) ∙ take-append-drop (length text) (drop at s)));
      reads = rw (same_self text);
      long = refl;
      few = omega arith;
    }
