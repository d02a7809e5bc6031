-- A stamp, a listed line, and the line with another stamp.
use Prim.Native.Nat.{ℕ}
use mathlib.Core.Path.{◌≡◌, refl, ap, ◌∙◌}
use mathlib.Core.Bool.{true}
use mathlib.Core.List.{List, [], ◌∷◌, ◌++◌}
use lib.IntN.{ℤ}
use Rattle.paper.specs.Forms.{is_digit, time_shown}
use Rattle.paper.specs.Line.{field, after, goes_on, fields_above, Begun, bad, six, head_of, begun, line_of}
use Rattle.paper.specs.Written.{with_stamp}
use Rattle.paper.specs.declared.Choice.{Choice}
use Rattle.paper.specs.declared.Line.TheVariants.{Listed}
use Rattle.paper.specs.declared.Record.{Record}
use Rattle.forms.proofs.Tests.{both, never}
use Rattle.forms.specs.Free.{Free, foreign}
use Rattle.forms.proofs.Back.{shown_free}
use Rattle.forms.proofs.Foreign.{free_append}
use Rattle.reading.proofs.Fields.{field_of, after_of, field_free, field_joined}
use Rattle.reading.proofs.Stamp.{has_six}
use Rattle.demands.specs.Demand2.{Restamped}

-- a written time has neither a space nor an LF in it
pub no_space : (t : ℤ) → Free 32 (time_shown t)
unfolding foreign is_digit
no_space t = shown_free 32 refl t

pub no_end : (t : ℤ) → Free 10 (time_shown t)
unfolding foreign is_digit
no_end t = shown_free 10 refl t

-- four fields, or more after the third
abbrev four : List ℕ → List ℕ → List ℕ → List ℕ → List ℕ
four first second third rest = first ++ (32 ∷ second ++ (32 ∷ third ++ (32 ∷ rest)))

stamp_four : (s first second third rest : List ℕ) → Free 32 first → Free 32 second → Free 32 third
    → with_stamp s (four first second third rest) ≡ four first second s rest
unfolding with_stamp
stamp_four s first second third rest f g h =
    rw (
      field_of first (second ++ (32 ∷ third ++ (32 ∷ rest))) f,
      after_of first (second ++ (32 ∷ third ++ (32 ∷ rest))) f,
      field_of second (third ++ (32 ∷ rest)) g,
      after_of second (third ++ (32 ∷ rest)) g,
      after_of third rest h,
    )

-- a listed line has its six fields
goes_on_lem : (choice : Choice) (l : List ℕ) (r : Record) → line_of choice l ≡ Listed r
    → (goes_on l ≡ true) × (goes_on (after l) ≡ true) × (goes_on (after (after l)) ≡ true)
unfolding line_of begun fields_above
goes_on_lem choice l r e = go (head_of l) refl e
  where
    go : (x : Begun) → head_of l ≡ x → begun choice x ≡ Listed r → (goes_on l ≡ true) × (goes_on (after l) ≡ true) × (goes_on (after (after l)) ≡ true)
    go (bad fault k) p e = never (cc)
    go (six h fields) p e =
        let (one, behind) = both _ _ (has_six l h fields p).0 in
        let (two, behind) = both _ _ behind in
        let (three, behind) = both _ _ behind in
        (one, two, three)

module _ (choice : Choice) (l : List ℕ) (r : Record) (listed : line_of choice l ≡ Listed r) where
  four_of : l ≡ four (field l) (field (after l)) (field (after (after l))) (after (after (after l)))
  four_of =
      let (one, two, three) = goes_on_lem choice l r listed in
      field_joined l one
      ∙ ap (λ (m : List ℕ). field l ++ (32 ∷ m))
      (field_joined (after l) two ∙ ap (λ (m : List ℕ). field (after l) ++ (32 ∷ m)) (field_joined (after (after l)) three))

  pub restamped : (s : List ℕ) → Free 32 s → Restamped s l (with_stamp s l)
  unfolding with_stamp
  restamped s free =
      record {
        first = field l;
        second = field (after l);
        third = field (after (after l));
        rest = after (after (after l));
        was = four_of;
        is = refl;
        fields = (field_free l, field_free (after l), field_free (after (after l)), free);
      }

-- stamped twice is stamped once
pub stamp_twice : (s l : List ℕ) → Free 32 s → with_stamp s (with_stamp s l) ≡ with_stamp s l
unfolding with_stamp
stamp_twice s l free = stamp_four s (field l) (field (after l)) s (after (after (after l))) (field_free l) (field_free (after l)) free

-- ---- no byte gets in but the stamp's

free_left : (b : ℕ) (l m : List ℕ) → Free b (l ++ m) → Free b l
unfolding Free
free_left b [] m f = tt
free_left b (x ∷ l) m f = (f.0, free_left b l m f.1)

free_right : (b : ℕ) (l m : List ℕ) → Free b (l ++ m) → Free b m
unfolding Free
free_right b [] m f = f
free_right b (x ∷ l) m f = free_right b l m f.1

pub restamped_free : (b : ℕ) {s l m : List ℕ} → Restamped s l m → Free b s → Free b l → Free b m
unfolding Free
restamped_free b {s} r free h =
    let one = rw r.was at h in
    let two = free_right b r.first _ one in
    let three = free_right b r.second _ two.1 in
    let four = free_right b r.third _ three.1 in
    rw r.is
    (free_append b r.first _ (free_left b r.first _ one)
    (two.0, free_append b r.second _ (free_left b r.second _ two.1) (three.0, free_append b s _ free four)))
