-- A line whose timestamp is replaced by another good one reads the same but for the time.
use Rattle.std.specs.Prelude.{Option, Result, Some, None, Ok, Err}
use Prim.Native.Nat.{ℕ, suc}
use mathlib.Core.Path.{◌≡◌, refl, sym, ap, ◌∙◌}
use mathlib.Core.List.{List, ◌∷◌, ◌++◌}
use mathlib.Core.Bool.{Bool, true, false, cond}
use lib.IntN.{ℤ}
use Rattle.paper.specs.Forms.{whole_of, time_of}
use Rattle.paper.specs.Events.{listed_kind, standing_for}
use Rattle.paper.specs.Line.{field, after, goes_on, rest, fields_above, First, nothing, first, on_field, on_first, first_of, Begun, bad, six, place_of, six_of, head_of, values_in, placed, misplaced, part_of, lacking, with_role, with_data, on_place, listed_line, good_end, unknown, step_over, unlisted, sorted, begun, line_of}
use Rattle.paper.specs.Written.{with_stamp}
use Rattle.paper.specs.declared.Choice.{Choice}
use Rattle.paper.specs.declared.Head.{Head}
use Rattle.paper.specs.declared.Data.{Data}
use Rattle.paper.specs.declared.Data.TheVariants.{Three, Others}
use Rattle.paper.specs.declared.Part.{Part}
use Rattle.paper.specs.declared.Role.{Role}
use Rattle.paper.specs.declared.Record.{Record}
use Rattle.paper.specs.declared.Standing.{Standing}
use Rattle.paper.specs.declared.Fault.{Fault}
use Rattle.paper.specs.declared.Line.TheVariants.{Refused, Listed}
use Rattle.forms.specs.Free.{Free}
use Rattle.forms.proofs.Tests.{both, never}
use Rattle.reading.specs.Retimed.{head_at, begun_at, record_at, line_at}
use Rattle.reading.proofs.Fields.{field_of, after_of, goes_on_lem, field_free}

-- ---- what stands behind the six fields does not look at the time

lacks_at : (t : ℤ) (h : Head) (d : Data) → lacking (head_at t h) d ≡ lacking h d
unfolding lacking
lacks_at t h (Three length tag peer) = refl
lacks_at t h Others = refl

role_at : (t : ℤ) (h : Head) (p : ℕ) (d : Data) (o : Option Role) → with_role (head_at t h) p d o ≡ line_at t (with_role h p d o)
unfolding with_role line_at
role_at t h p d None = ap (λ k. Refused Fault.NoMessage (Some k)) (lacks_at t h d)
role_at t h p d (Some role) = refl

data_at : (t : ℤ) (h : Head) (p : ℕ) (part : Part) (d : Result Data ℕ) → with_data (head_at t h) p part d ≡ line_at t (with_data h p part d)
unfolding with_data line_at
data_at t h p part (Err k) = refl
data_at t h p part (Ok values) = role_at t h p values _

place_at : (t : ℤ) (h : Head) (fields : Option (List ℕ)) (o : Option ℕ) → on_place (head_at t h) fields o ≡ line_at t (on_place h fields o)
unfolding on_place misplaced line_at
place_at t h fields None = refl
place_at t h fields (Some p) = data_at t h p (part_of h.kind h.event) (values_in h.kind h.count fields)

listed_at : (t : ℤ) (h : Head) (fields : Option (List ℕ)) → listed_line (head_at t h) fields ≡ line_at t (listed_line h fields)
unfolding listed_line
listed_at t h fields = place_at t h fields (placed h.processor h.process)

over_at : (t : ℤ) (choice : Choice) (h : Head) → step_over choice (head_at t h) ≡ line_at t (step_over choice h)
unfolding step_over unknown line_at
over_at t Choice.Strict h = refl
over_at t Choice.Lenient h = refl

unlisted_at : (t : ℤ) (choice : Choice) (h : Head) (fields : Option (List ℕ)) → unlisted choice (head_at t h) fields ≡ line_at t (unlisted choice h fields)
unfolding unlisted line_at
unlisted_at t choice h fields = go (good_end h.count fields)
  where
    go : (b : Bool)
        → cond b (step_over choice (head_at t h)) (Refused Fault.Form (Some 6))
        ≡ line_at t (cond b (step_over choice h) (Refused Fault.Form (Some 6)))
    go true = over_at t choice h
    go false = refl

sorted_at : (t : ℤ) (choice : Choice) (h : Head) (fields : Option (List ℕ)) (s : Standing) → sorted choice (head_at t h) fields s ≡ line_at t (sorted choice h fields s)
unfolding sorted line_at
sorted_at t choice h fields Standing.NotHandled = refl
sorted_at t choice h fields Standing.Unlisted = unlisted_at t choice h fields
sorted_at t choice h fields Standing.Message = listed_at t h fields
sorted_at t choice h fields Standing.Listed = listed_at t h fields

pub begun_at_lem : (t : ℤ) (choice : Choice) (x : Begun) → begun choice (begun_at t x) ≡ line_at t (begun choice x)
unfolding begun begun_at line_at
begun_at_lem t choice (bad fault k) = refl
begun_at_lem t choice (six h fields) = go (listed_kind h.kind)
  where
    go : (b : Bool)
        → cond b (sorted choice (head_at t h) fields (standing_for h.kind h.event)) (unlisted choice (head_at t h) fields)
        ≡ line_at t (cond b (sorted choice h fields (standing_for h.kind h.event)) (unlisted choice h fields))
    go true = sorted_at t choice h fields (standing_for h.kind h.event)
    go false = unlisted_at t choice h fields

-- ---- the six fields

-- one field taken
pub took : {A : Type 0} (form : List ℕ → Option ℤ) (l : List ℕ) (none_taken : A) (more : ℤ → Option (List ℕ) → A)
    → on_first (first_of form (Some l)) none_taken more ≡ on_field (form (field l)) none_taken (λ v. more v (rest l))
unfolding first_of
took form l none_taken more = go (form (field l))
  where
    go : (f : Option ℤ) → on_first (on_field f nothing (λ v. first v (rest l))) none_taken more ≡ on_field f none_taken (λ v. more v (rest l))
    go (Some v) = refl
    go None = refl

at_first : (t : ℤ) (fault : Fault) (k : ℕ) (f : First) (more : ℤ → Option (List ℕ) → Begun)
    → begun_at t (on_first f (bad fault k) more) ≡ on_first f (bad fault k) (λ v fields. begun_at t (more v fields))
unfolding begun_at
at_first t fault k nothing more = refl
at_first t fault k (first v fields) more = refl

-- the last three fields do not look at the time
behind_at : (t k e t₀ : ℤ) (fields : Option (List ℕ)) → place_of k e t fields ≡ begun_at t (place_of k e t₀ fields)
unfolding place_of
behind_at t k e t₀ fields = simp at_first (unfold begun_at in refl)

pub rest_on : (l : List ℕ) → goes_on l ≡ true → rest l ≡ Some (after l)
unfolding rest
rest_on l g = rw g

-- the first three fields, where each has a space after it, read as a, b and c
opened : (a b c : Option ℤ) → Option (List ℕ) → Begun
opened a b c fields =
    on_field a (bad Fault.Form 0) (λ k. on_field b (bad Fault.Form 1) (λ e. on_field c (bad Fault.Stamp 2) (λ t. place_of k e t fields)))

sixes : (l : List ℕ) → goes_on l ≡ true → goes_on (after l) ≡ true → goes_on (after (after l)) ≡ true
    → six_of (Some l) ≡ opened (whole_of (field l)) (whole_of (field (after l))) (time_of (field (after (after l)))) (Some (after (after (after l))))
unfolding six_of opened
sixes l g₀ g₁ g₂ = simp (took, rest_on l g₀, rest_on (after l) g₁, rest_on (after (after l)) g₂)

opened_at : (t : ℤ) (a b c : Option ℤ) (fields fields₁ : Option (List ℕ)) (h : Head)
    → opened a b c fields ≡ six h fields₁ → opened a b (Some t) fields ≡ six (head_at t h) fields₁
unfolding opened
opened_at t None b c fields fields₁ h e = cc
opened_at t (Some k) None c fields fields₁ h e = cc
opened_at t (Some k) (Some v) None fields fields₁ h e = cc
opened_at t (Some k) (Some v) (Some u) fields fields₁ h e = behind_at t k v u fields ∙ ap (begun_at t) e ∙ unfold begun_at in refl

pub above : (n : ℕ) (l : List ℕ) → fields_above (suc n) l ≡ true → (goes_on l ≡ true) × (fields_above n (after l) ≡ true)
unfolding fields_above
above n l e = both (goes_on l) (fields_above n (after l)) e

-- a line that begins well has its six fields
pub has_six : (l : List ℕ) (h : Head) (fields : Option (List ℕ)) → head_of l ≡ six h fields → (fields_above 5 l ≡ true) × (six_of (Some l) ≡ six h fields)
unfolding head_of
has_six l h fields e = go (fields_above 5 l) refl e
  where
    go : (b : Bool) → fields_above 5 l ≡ b → cond b (six_of (Some l)) (bad Fault.Form 5) ≡ six h fields → (fields_above 5 l ≡ true) × (six_of (Some l) ≡ six h fields)
    go true p e = (p, e)
    go false p e = (cc, cc)

-- ---- the stamp replaced

module _ (l s : List ℕ) (t : ℤ) (good : time_of s ≡ Some t) (free : Free 32 s) where
  behind₂ : List ℕ
  behind₂ = s ++ (32 ∷ after (after (after l)))

  behind₁ : List ℕ
  behind₁ = field (after l) ++ (32 ∷ behind₂)

  after₁ : after (with_stamp s l) ≡ behind₁
  unfolding with_stamp behind₁ behind₂
  after₁ = after_of (field l) behind₁ (field_free l)

  after₂ : after behind₁ ≡ behind₂
  unfolding behind₁ behind₂
  after₂ = after_of (field (after l)) behind₂ (field_free (after l))

  after₃ : after behind₂ ≡ after (after (after l))
  unfolding behind₂
  after₃ = after_of s (after (after (after l))) free

  goes₀ : goes_on (with_stamp s l) ≡ true
  unfolding with_stamp behind₁ behind₂
  goes₀ = goes_on_lem (field l) behind₁ (field_free l)

  goes₁ : goes_on behind₁ ≡ true
  unfolding behind₁ behind₂
  goes₁ = goes_on_lem (field (after l)) behind₂ (field_free (after l))

  goes₂ : goes_on behind₂ ≡ true
  unfolding behind₂
  goes₂ = goes_on_lem s (after (after (after l))) free

  field₀ : field (with_stamp s l) ≡ field l
  unfolding with_stamp behind₁ behind₂
  field₀ = field_of (field l) behind₁ (field_free l)

  field₁ : field behind₁ ≡ field (after l)
  unfolding behind₁ behind₂
  field₁ = field_of (field (after l)) behind₂ (field_free (after l))

  field₂ : field behind₂ ≡ s
  unfolding behind₂
  field₂ = field_of s (after (after (after l))) free

  six_stamped : six_of (Some (with_stamp s l)) ≡ opened (whole_of (field l)) (whole_of (field (after l))) (Some t) (Some (after (after (after l))))
  six_stamped =
      sixes (with_stamp s l) goes₀ (rw after₁ goes₁) (rw (after₁, after₂) goes₂)
      ∙ simp (after₁, after₂, after₃, field₀, field₁, field₂, good)

  above_stamped : fields_above 2 (after (after (after l))) ≡ true → fields_above 5 (with_stamp s l) ≡ true
  above_stamped h = unfold fields_above in simp (after₁, after₂, after₃, goes₀, goes₁, goes₂) h

  pub head_stamped : (h : Head) (fields : Option (List ℕ)) → head_of l ≡ six h fields → head_of (with_stamp s l) ≡ six (head_at t h) fields
  unfolding head_of
  head_stamped h fields e =
      let q = has_six l h fields e in
      let g₀ = above 4 l q.0 in
      let g₁ = above 3 (after l) g₀.1 in
      let g₂ = above 2 (after (after l)) g₁.1 in
      rw (above_stamped g₂.1, six_stamped)
      (opened_at t (whole_of (field l)) (whole_of (field (after l))) (time_of (field (after (after l)))) (Some (after (after (after l)))) fields h
      (sym (sixes l g₀.0 g₁.0 g₂.0) ∙ q.1))

  -- the whole line, whatever it comes to
  pub line_stamped : (choice : Choice) (h : Head) (fields : Option (List ℕ)) → head_of l ≡ six h fields
      → line_of choice (with_stamp s l) ≡ line_at t (line_of choice l)
  unfolding line_of begun_at
  line_stamped choice h fields e = rw (head_stamped h fields e, e) (begun_at_lem t choice (six h fields))

  -- a listed line
  pub listed_stamped : (choice : Choice) (r : Record) → line_of choice l ≡ Listed r → line_of choice (with_stamp s l) ≡ Listed (record_at t r)
  unfolding line_of begun line_at
  listed_stamped choice r e = go (head_of l) refl e
    where
      go : (x : Begun) → head_of l ≡ x → begun choice x ≡ Listed r → line_of choice (with_stamp s l) ≡ Listed (record_at t r)
      go (bad fault k) p e = cc
      go (six h fields) p e = let q : line_of choice l ≡ Listed r = rw p e in line_stamped choice h fields p ∙ ap (line_at t) q

-- ---- the stamp of a listed line

opened_time : (a b c : Option ℤ) (fields fields₁ : Option (List ℕ)) (h : Head) → opened a b c fields ≡ six h fields₁ → c ≡ Some h.time
unfolding opened begun_at
opened_time None b c fields fields₁ h e = cc
opened_time (Some k) None c fields fields₁ h e = cc
opened_time (Some k) (Some v) None fields fields₁ h e = cc
opened_time (Some k) (Some v) (Some u) fields fields₁ h e =
    let again : six h fields₁ ≡ six (head_at u h) fields₁ = sym e ∙ behind_at u k v u fields ∙ ap (begun_at u) e in
    let same : h ≡ head_at u h = cc in
    ap (λ (x : Head). Some x.time) (sym same)

-- its third field is its time, with a space behind each of the first three
pub record Timed (l : List ℕ) (t : ℤ) : Type 0 where
  pub one : goes_on l ≡ true
  pub two : goes_on (after l) ≡ true
  pub three : goes_on (after (after l)) ≡ true
  pub stamp : time_of (field (after (after l))) ≡ Some t

pub timed_head : (l : List ℕ) (h : Head) (fields : Option (List ℕ)) → head_of l ≡ six h fields → Timed l h.time
timed_head l h fields e =
    let q = has_six l h fields e in
    let g₀ = above 4 l q.0 in
    let g₁ = above 3 (after l) g₀.1 in
    let g₂ = above 2 (after (after l)) g₁.1 in
    record {
      one = g₀.0;
      two = g₁.0;
      three = g₂.0;
      stamp = opened_time _ _ (time_of (field (after (after l)))) _ _ h (sym (sixes l g₀.0 g₁.0 g₂.0) ∙ q.1);
    }

-- the record's time is the head's: with that put in again it is the same record
pub timed_line : (choice : Choice) (l : List ℕ) (r : Record) → line_of choice l ≡ Listed r → Timed l r.time
unfolding line_of begun begun_at line_at
timed_line choice l r e = go (head_of l) refl e
  where
    go : (x : Begun) → head_of l ≡ x → begun choice x ≡ Listed r → Timed l r.time
    go (bad fault k) p e = never (cc)
    go (six h fields) p e =
        let again : Listed r ≡ Listed (record_at h.time r) = sym e ∙ begun_at_lem h.time choice (six h fields) ∙ ap (line_at h.time) e in
        let same : r ≡ record_at h.time r = cc in
        rw (ap (λ (x : Record). x.time) same) (timed_head l h fields p)
