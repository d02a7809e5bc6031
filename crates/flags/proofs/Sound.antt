-- What is judged was read from values of a good form: the choice is 1 or 2, levels of a bad form are never asked as none, the statistics are
-- switched off or on, and the share is a number.
use Rattle.std.specs.Prelude.{Option, Some, None}
use Prim.Native.Nat.{ℕ}
use mathlib.Core.Path.{◌≡◌, refl}
use mathlib.Core.Bool.{Bool, true, false, cond, ◌&&◌, not}
use mathlib.Core.List.{List, [], ◌∷◌}
use Rattle.named.specs.Values.{name_of, forgotten, choice_of, levels_of, switch_of, share_of, good_for}
use Rattle.flags.specs.Plan.{Request, judge, Values, no_values, value_of, with_value, is_given, accepts, taken, asked_of, needed, concluded, on_pair, plan_from, plan_of}
use Rattle.named.specs.declared.Name.{Name}
use Rattle.named.specs.declared.Name.TheVariants.{Choice, Trace, Table, Levels, Statistics, Share, Out}

-- what was given so far has its form
record Sound (v : Values) : Type 0 where
  pub choice_good : (value : List ℕ) → v.choice ≡ Some value → good_for Choice value ≡ true
  pub levels_good : (value : List ℕ) → v.levels ≡ Some value → good_for Levels value ≡ true
  pub statistics_good : (value : List ℕ) → v.statistics ≡ Some value → good_for Statistics value ≡ true
  pub share_good : (value : List ℕ) → v.share ≡ Some value → good_for Share value ≡ true

sound_none : Sound no_values
unfolding no_values
sound_none =
    record {
      choice_good = λ value e. cc;
      levels_good = λ value e. cc;
      statistics_good = λ value e. cc;
      share_good = λ value e. cc;
    }

sound_with : (name : Name) (value : List ℕ) (v : Values) → good_for name value ≡ true → Sound v → Sound (with_value name value v)
unfolding with_value
sound_with Choice value v g s =
    record { choice_good = λ other e. let same : other ≡ value = cc in rw same g; levels_good = s.levels_good; statistics_good = s.statistics_good; share_good = s.share_good }
sound_with Trace value v g s =
    record { choice_good = s.choice_good; levels_good = s.levels_good; statistics_good = s.statistics_good; share_good = s.share_good }
sound_with Table value v g s =
    record { choice_good = s.choice_good; levels_good = s.levels_good; statistics_good = s.statistics_good; share_good = s.share_good }
sound_with Levels value v g s =
    record { choice_good = s.choice_good; levels_good = λ other e. let same : other ≡ value = cc in rw same g; statistics_good = s.statistics_good; share_good = s.share_good }
sound_with Statistics value v g s =
    record { choice_good = s.choice_good; levels_good = s.levels_good; statistics_good = λ other e. let same : other ≡ value = cc in rw same g; share_good = s.share_good }
sound_with Share value v g s =
    record { choice_good = s.choice_good; levels_good = s.levels_good; statistics_good = s.statistics_good; share_good = λ other e. let same : other ≡ value = cc in rw same g }
sound_with Out value v g s =
    record { choice_good = s.choice_good; levels_good = s.levels_good; statistics_good = s.statistics_good; share_good = s.share_good }

sound_taken : (name : Option Name) (value : List ℕ) (v w : Values) → Sound v → taken name value v ≡ Some w → Sound w
unfolding taken accepts
sound_taken None value v w s e = cc
sound_taken (Some name) value v w s e = go (is_given (value_of name v)) (forgotten value) (good_for name value) refl e
  where
    go : (a b g : Bool) → good_for name value ≡ g → cond (not a && (not b && g)) (Some (with_value name value v)) None ≡ Some w → Sound w
    go true b g q e = cc
    go false true g q e = cc
    go false false false q e = cc
    go false false true q e = let same : w ≡ with_value name value v = cc in rw same (sound_with name value v q s)

pub record Honest (request : Request) : Type 0 where
  pub choice : List ℕ
  pub levels : List ℕ
  pub statistics : List ℕ
  pub share : List ℕ
  pub strict_or_lenient : good_for Choice choice ≡ true
  pub off_or_three : good_for Levels levels ≡ true
  pub off_or_on : good_for Statistics statistics ≡ true
  pub a_number : good_for Share share ≡ true
  pub is : request.asked ≡ asked_of (choice_of choice) (levels_of levels) (switch_of statistics) (share_of share)

sound_end : (v : Values) (request : Request) → Sound v → concluded v ≡ judge request → Honest request
unfolding concluded needed
sound_end v request s e = go v.choice v.trace v.table v.levels v.statistics v.share refl refl refl refl e
  where
    go : (a b c d f k : Option (List ℕ)) → v.choice ≡ a → v.levels ≡ d → v.statistics ≡ f → v.share ≡ k
        → needed Choice a (λ choice. needed Trace b (λ trace. needed Table c (λ table. needed Levels d (λ levels. needed Statistics f (λ statistics. needed Share k (λ share.
        judge (record { asked = asked_of (choice_of choice) (levels_of levels) (switch_of statistics) (share_of share); trace = trace; table = table; out = v.out })))))))
        ≡ judge request
        → Honest request
    go None b c d f k p q r t e = cc
    go (Some x) None c d f k p q r t e = cc
    go (Some x) (Some y) None d f k p q r t e = cc
    go (Some x) (Some y) (Some z) None f k p q r t e = cc
    go (Some x) (Some y) (Some z) (Some l) None k p q r t e = cc
    go (Some x) (Some y) (Some z) (Some l) (Some w) None p q r t e = cc
    go (Some x) (Some y) (Some z) (Some l) (Some w) (Some h) p q r t e =
        let same : request ≡ record { asked = asked_of (choice_of x) (levels_of l) (switch_of w) (share_of h); trace = y; table = z; out = v.out } = cc in
        record {
          choice = x;
          levels = l;
          statistics = w;
          share = h;
          strict_or_lenient = s.choice_good x p;
          off_or_three = s.levels_good l q;
          off_or_on = s.statistics_good w r;
          a_number = s.share_good h t;
          is = rw same;
        }

sound_from : (words : List (List ℕ)) (v : Values) (request : Request) → Sound v → plan_from v words ≡ judge request → Honest request
unfolding plan_from on_pair
sound_from [] v request s e = sound_end v request s e
sound_from (word ∷ []) v request s e = cc
sound_from (word ∷ value ∷ rest) v request s e = go (λ w t k. sound_from rest w request t k) (taken (name_of word) value v) refl e
  where
    go : ((w : Values) → Sound w → plan_from w rest ≡ judge request → Honest request) → (t : Option Values) → taken (name_of word) value v ≡ t
        → on_pair word t (λ more. plan_from more rest) ≡ judge request → Honest request
    go later None q e = cc
    go later (Some w) q e = later w (sound_taken (name_of word) value v w s q) e

pub judged_honest : (words : List (List ℕ)) (request : Request) → plan_of words ≡ judge request → Honest request
unfolding plan_of
judged_honest words request e = sound_from words no_values request sound_none e
