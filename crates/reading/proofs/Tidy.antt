-- Every listed record is tidy.
use Rattle.std.specs.Prelude.{Option, Result, Some, None, Ok, Err}
use Prim.Native.Nat.{ℕ, zero, suc, ◌≤◌, ◌<◌}
use mathlib.Core.Path.{◌≡◌, refl}
use mathlib.Core.List.{List, [], ◌∷◌}
use mathlib.Core.Bool.{Bool, true, false, cond, ◌&&◌}
use native.Mathlib.Omega.{arith}
use lib.IntN.{ℤ, pos, negsuc, nat_abs}
use lib.Signed.{le_z}
use lib.Dec.{leb}
use borrow.Author.Tests.{leb-true}
use Rattle.paper.specs.Tests.{eq_z, up_to}
use Rattle.paper.specs.Forms.{whole_of, time_of}
use Rattle.paper.specs.Events.{listed_kind, is_statistics, standing_for}
use Rattle.paper.specs.Line.{field, rest, First, nothing, first, on_field, on_first, first_of, Numbers, wrong, numbers, pushed, values_of, as_wholes, as_others, described, data_of, Pairs, unpaired, pairs, pairs_for, as_pairs, values_in, placed, part_of, message_of, role_of, record_of, with_role, with_data, on_place, listed_line, good_end, step_over, unlisted, sorted, Begun, bad, six, begun, head_of, line_of}
use Rattle.paper.specs.declared.Choice.{Choice}
use Rattle.paper.specs.declared.Head.{Head}
use Rattle.paper.specs.declared.Data.{Data}
use Rattle.paper.specs.declared.Data.TheVariants.{Three, Others}
use Rattle.paper.specs.declared.Part.{Part}
use Rattle.paper.specs.declared.Message.{Message}
use Rattle.paper.specs.declared.Role.{Role}
use Rattle.paper.specs.declared.Record.{Record}
use Rattle.paper.specs.declared.Fault.TheVariants as Fault
use Rattle.paper.specs.declared.Standing.{Standing}
use Rattle.paper.specs.declared.Line.TheVariants.{Refused, Listed}
use Rattle.forms.proofs.Goods.{whole_in_range}
use Rattle.forms.proofs.Tests.{both, never}
use Rattle.reading.specs.Tidy.{InRange, Whole, TidyMessage, TidyRole, TidyData, Says, TidyRecord, TidyLine}
use Rattle.reading.proofs.Heads.{TidyHead, TidyBegun, tidy_head}

-- the two cases of a test
test : {A : Type 0} (P : A → Type 0) (b : Bool) (x y : A) → (b ≡ true → P x) → P y → P (cond b x y)
test P true x y h k = h refl
test P false x y h k = k

-- ---- the data

abbrev TidyValues : Result Data ℕ → Type 0
TidyValues (Ok d) = TidyData d
TidyValues (Err k) = Unit

tidy_others : (o : Numbers) → TidyValues (as_others o)
unfolding as_others
tidy_others (wrong k) = tt
tidy_others (numbers vs) = tt

-- each of the values is a whole number
abbrev Wholes : List ℤ → Type 0
Wholes [] = Unit
Wholes (v ∷ vs) = Whole v × Wholes vs

abbrev AllWhole : Numbers → Type 0
AllWhole (wrong k) = Unit
AllWhole (numbers vs) = Wholes vs

whole_pushed : (v : ℤ) (o : Numbers) → Whole v → AllWhole o → AllWhole (pushed v o)
whole_pushed v (wrong k) h w = tt
whole_pushed v (numbers vs) h w = (h, w)

whole_values : (k n : ℕ) (f : Option (List ℕ)) → AllWhole (values_of whole_of k n f)
unfolding values_of first_of
whole_values k zero None = tt
whole_values k zero (Some l) = tt
whole_values k (suc n) None = tt
whole_values k (suc n) (Some l) = go (whole_of (field l)) refl (whole_values (suc k) n (rest l))
  where
    go : (x : Option ℤ) → whole_of (field l) ≡ x → AllWhole (values_of whole_of (suc k) n (rest l))
        → AllWhole (on_first (on_field x nothing (λ v. first v (rest l))) (wrong k) (λ v g. pushed v (values_of whole_of (suc k) n g)))
    go (Some v) e later = whole_pushed v (values_of whole_of (suc k) n (rest l)) (whole_in_range (field l) v e) later
    go None e later = tt

tidy_wholes : (o : Numbers) → AllWhole o → TidyValues (as_wholes o)
unfolding as_wholes
tidy_wholes (wrong k) h = tt
tidy_wholes (numbers []) h = tt
tidy_wholes (numbers (a ∷ [])) h = tt
tidy_wholes (numbers (a ∷ b ∷ [])) h = tt
tidy_wholes (numbers (a ∷ b ∷ c ∷ [])) h = (h.0, h.1.0, h.1.1.0)
tidy_wholes (numbers (a ∷ b ∷ c ∷ d ∷ more)) h = tt

tidy_data : (n : ℕ) (f : Option (List ℕ)) → TidyValues (data_of n f)
unfolding data_of described
tidy_data zero f = tidy_others (values_of whole_of 6 zero f)
tidy_data (suc n) f = test TidyValues (leb (suc n) 16) _ (Err 5) (λ h. go (first_of whole_of f)) tt
  where
    go : (x : First) → TidyValues (on_first x (Err 6) (λ d g. described (suc n) d g))
    go nothing = tt
    go (first d g) =
        test TidyValues (eq_z d (pos 2)) _ _ (λ h. tidy_wholes (values_of whole_of 7 (suc n) g) (whole_values 7 (suc n) g))
        (test TidyValues (eq_z d (pos 5)) _ (Err 6) (λ h. tidy_others (values_of time_of 7 (suc n) g)) tt)

-- ---- the pairs of a statistics line

tidy_pairs : (o : Pairs) → TidyValues (as_pairs o)
unfolding as_pairs
tidy_pairs (unpaired k) = tt
tidy_pairs (pairs ps) = tt

tidy_values : (kind : ℤ) (n : ℕ) (f : Option (List ℕ)) → TidyValues (values_in kind n f)
unfolding values_in
tidy_values kind n f = test TidyValues (is_statistics kind) _ _ (λ e. tidy_pairs (pairs_for kind n f)) (tidy_data n f)

-- ---- the message

up_to_below : (n : ℕ) (z : ℤ) → up_to n z ≡ true → nat_abs z ≤ n
up_to_below n (pos m) e = leb-true m n (both (leb 0 m) (leb m n) e).1
up_to_below n (negsuc m) e = absurd (let q : ◌≡◌ {A = ℕ} 0 1 = cc in omega arith)

tidy_message : (d : Data) → TidyData d → (m : Message) → message_of d ≡ Some m → TidyMessage m
unfolding message_of
tidy_message Others k m e = never (cc)
tidy_message (Three a b c) k m e = go (le_z (pos 0) a && up_to 63 c) refl e
  where
    go : (x : Bool) → (le_z (pos 0) a && up_to 63 c) ≡ x → cond x (Some (record { length = nat_abs a; tag = b; peer = nat_abs c })) None ≡ Some m
        → TidyMessage m
    go true p e =
        let same : record { length = nat_abs a; tag = b; peer = nat_abs c } ≡ m = cc in
        rw (← same) (record { length = k.0; peer = omega (arith, up_to_below 63 c (both (le_z (pos 0) a) (up_to 63 c) p).1) })
    go false p e = never (cc)

-- ---- the record

module _ (h : Head) (head : TidyHead h) (p : ℕ) (place : p < 64) where
  tidy_kept : (d : Data) → TidyData d → (r : Role) → TidyRole r → Says r d → TidyRecord (record_of h p d r)
  tidy_kept d k r t s =
      record {
        time = head.time;
        processor = place;
        kind = head.kind;
        event = head.event;
        values = k;
        role = t;
        says = s;
      }

  tidy_part : (part : Part) (d : Data) → TidyData d → (o : Option Message) → message_of d ≡ o → TidyLine (with_role h p d (role_of part d))
  unfolding role_of with_role
  tidy_part Part.Neither d k o e = tidy_kept d k Role.Neither tt tt
  tidy_part Part.Sends d k None e = rw e tt
  tidy_part Part.Sends d k (Some m) e = rw e (tidy_kept d k (Role.Send m) (tidy_message d k m e) e)
  tidy_part Part.Receives d k None e = rw e tt
  tidy_part Part.Receives d k (Some m) e = rw e (tidy_kept d k (Role.Receive m) (tidy_message d k m e) e)

  tidy_with : (part : Part) (d : Result Data ℕ) → TidyValues d → TidyLine (with_data h p part d)
  unfolding with_data
  tidy_with part (Err k) t = tt
  tidy_with part (Ok values) t = tidy_part part values t _ refl

-- ---- the line

tidy_listed : (h : Head) → TidyHead h → (f : Option (List ℕ)) → TidyLine (listed_line h f)
unfolding listed_line placed on_place
tidy_listed h head f = go (up_to 63 h.processor && eq_z h.process (pos 0)) refl
  where
    go : (x : Bool) → (up_to 63 h.processor && eq_z h.process (pos 0)) ≡ x → TidyLine (on_place h f (cond x (Some (nat_abs h.processor)) None))
    go true e =
        tidy_with h head (nat_abs h.processor)
        (omega (arith, up_to_below 63 h.processor (both (up_to 63 h.processor) (eq_z h.process (pos 0)) e).0))
        (part_of h.kind h.event) (values_in h.kind h.count f) (tidy_values h.kind h.count f)
    go false e = tt

tidy_over : (choice : Choice) (h : Head) → TidyLine (step_over choice h)
unfolding step_over
tidy_over Choice.Strict h = tt
tidy_over Choice.Lenient h = tt

tidy_unlisted : (choice : Choice) (h : Head) (f : Option (List ℕ)) → TidyLine (unlisted choice h f)
unfolding unlisted
tidy_unlisted choice h f = test TidyLine (good_end h.count f) (step_over choice h) (Refused Fault.Form (Some 6)) (λ e. tidy_over choice h) tt

tidy_sorted : (choice : Choice) (h : Head) → TidyHead h → (f : Option (List ℕ)) (s : Standing) → TidyLine (sorted choice h f s)
unfolding sorted
tidy_sorted choice h head f Standing.NotHandled = tt
tidy_sorted choice h head f Standing.Unlisted = tidy_unlisted choice h f
tidy_sorted choice h head f Standing.Message = tidy_listed h head f
tidy_sorted choice h head f Standing.Listed = tidy_listed h head f

tidy_begun : (choice : Choice) (x : Begun) → TidyBegun x → TidyLine (begun choice x)
unfolding begun
tidy_begun choice (bad fault k) head = tt
tidy_begun choice (six h f) head =
    test TidyLine (listed_kind h.kind) (sorted choice h f (standing_for h.kind h.event)) (unlisted choice h f)
    (λ e. tidy_sorted choice h head f (standing_for h.kind h.event)) (tidy_unlisted choice h f)

pub tidy_line : (choice : Choice) (l : List ℕ) → TidyLine (line_of choice l)
unfolding line_of
tidy_line choice l = tidy_begun choice (head_of l) (tidy_head l)

pub tidy_record : (choice : Choice) (l : List ℕ) (r : Record) → line_of choice l ≡ Listed r → TidyRecord r
tidy_record choice l r e = rw e at (tidy_line choice l)

-- of which the order of the records needs the time alone
pub time_of_line : (choice : Choice) (l : List ℕ) (r : Record) → line_of choice l ≡ Listed r → InRange r.time
time_of_line choice l r e = (tidy_record choice l r e).time
