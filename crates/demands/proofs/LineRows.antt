-- Rows 5 to 10: what a line is refused for, and the field that decides, are what the row says of it.
use Rattle.std.specs.Prelude.{Option, Result, Some, None, Ok, Err}
use Prim.Native.Nat.{ℕ, ◌≤◌}
use native.Mathlib.Omega.{arith}
use mathlib.Core.Path.{◌≡◌, refl, sym, ◌∙◌}
use mathlib.Core.Logic.{inl, inr}
use mathlib.Core.Bool.{Bool, true, false, cond, ◌&&◌}
use mathlib.Core.List.{List}
use lib.IntN.{ℤ, pos}
use Rattle.paper.specs.Numbers.{number_of}
use Rattle.paper.specs.Tests.{eq_z, up_to, minus, one_of}
use Rattle.paper.specs.Forms.{whole_of, time_of}
use Rattle.paper.specs.Events.{listed_kind, is_statistics, standing_for, send_events, receive_events}
use Rattle.paper.specs.Line.{field, after, rest, fields_above, count_of, Begun, bad, six, six_of, head_of, good_end, unknown, step_over, unlisted, data_of, pairs_for, as_pairs, values_in, placed, misplaced, part_of, message_of, lacking, role_of, with_role, with_data, on_place, listed_line, sorted, begun, line_of}
use Rattle.paper.specs.declared.Choice.{Choice}
use Rattle.paper.specs.declared.Choice.TheVariants.{Strict, Lenient}
use Rattle.paper.specs.declared.Data.{Data}
use Rattle.paper.specs.declared.Fault.{Fault}
use Rattle.paper.specs.declared.Head.{Head}
use Rattle.paper.specs.declared.Line.TheVariants.{Refused}
use Rattle.paper.specs.declared.Message.{Message}
use Rattle.paper.specs.declared.Part.{Part}
use Rattle.paper.specs.declared.Standing.{Standing}
use Rattle.forms.proofs.Tests.{never}
use Rattle.reading.proofs.Sixes.{read_as, after₂, after₃, after₄, after₅, head_read}
use Rattle.demands.specs.Rows.{six_forms, FirstBad, here, later, Six, Unlisted, by_kind, by_event, ListedHead, OnPlace, data_in, BadForm, few_fields, bad_field, bad_end, bad_data, bad_pairs, BadStamp, UnlistedStrict, NotHandled, OffPlace, processor_outside, process_not_0, BadPlace, NoMessage}
use Rattle.demands.proofs.Tests.{untold, not_told, same_tells}
use Rattle.demands.proofs.DataRows.{data_row, row_data}
use Rattle.demands.proofs.PairRows.{pairs_row, row_pairs}
use Rattle.demands.proofs.MessageRows.{lacks, lacks_back}

-- the row of a line that is refused for this, and the field that decides; no line is refused for anything else
pub data RowIn (choice : Choice) (l : List ℕ) : Fault → Option ℕ → Type 0 where
  form_row : {k : ℕ} → BadForm l k → RowIn choice l Fault.Form (Some k)
  stamp_row : {k : ℕ} → BadStamp l k → RowIn choice l Fault.Stamp (Some k)
  strict_row : {k : ℕ} → UnlistedStrict choice l k → RowIn choice l Fault.Unlisted (Some k)
  handled_row : {k : ℕ} → NotHandled l k → RowIn choice l Fault.NotHandled (Some k)
  place_row : {k : ℕ} → BadPlace l k → RowIn choice l Fault.Place (Some k)
  message_row : {k : ℕ} → NoMessage l k → RowIn choice l Fault.NoMessage (Some k)

pub row_number : {choice : Choice} {l : List ℕ} {fault : Fault} {spot : Option ℕ} → RowIn choice l fault spot
    → (5 ≤ number_of fault) × (number_of fault ≤ 10)
unfolding number_of
row_number (form_row r) = (omega arith, omega arith)
row_number (stamp_row r) = (omega arith, omega arith)
row_number (strict_row r) = (omega arith, omega arith)
row_number (handled_row r) = (omega arith, omega arith)
row_number (place_row r) = (omega arith, omega arith)
row_number (message_row r) = (omega arith, omega arith)

-- the field of an unlisted line, and of one off its place
unknown_is : {h : Head} {k : ℕ} → Unlisted h k → unknown h ≡ k
unfolding unknown
unknown_is (by_kind e) = rw e
unknown_is (by_event e u) = rw e

off_place : (h : Head) → placed h.processor h.process ≡ None → OffPlace h (misplaced h)
unfolding placed misplaced
off_place h e = go (up_to 63 h.processor) refl (eq_z h.process (pos 0)) refl _ e
  where
    go : (t : Bool) → up_to 63 h.processor ≡ t → (u : Bool) → eq_z h.process (pos 0) ≡ u → (n : ℕ) → cond (t && u) (Some n) None ≡ None
        → OffPlace h (cond t 4 3)
    go false t u q n e = processor_outside t
    go true t false q n e = process_not_0 t (untold (same_tells _ _) q)
    go true t true q n e = never (cc)

place_off : {h : Head} {k : ℕ} → OffPlace h k → (placed h.processor h.process ≡ None) × (misplaced h ≡ k)
unfolding placed misplaced
place_off (processor_outside t) = (rw t, rw t)
place_off (process_not_0 t other) = (rw (t, not_told (same_tells _ _) other), rw t)

-- ---- the two kinds of data

module _ (kind : ℤ) where
  -- a send is an entry and a receive an exit, and so no statistics
  no_statistics : (event : ℤ) → ¬ (part_of kind event ≡ Part.Neither) → is_statistics kind ≡ false
  unfolding part_of is_statistics one_of
  no_statistics event h = go (eq_z kind (minus 3)) refl (eq_z kind (minus 4)) refl h
    where
      go : (t : Bool) → eq_z kind (minus 3) ≡ t → (u : Bool) → eq_z kind (minus 4) ≡ u
          → ¬ (cond (t && one_of send_events event) Part.Sends (cond (u && one_of receive_events event) Part.Receives Part.Neither) ≡ Part.Neither)
          → is_statistics kind ≡ false
      go true t u q h = rw ((same_tells kind (minus 3)).holds t)
      go false t true q h = rw ((same_tells kind (minus 4)).holds q)
      go false t false q h = absurd (h refl)

  module _ (n : ℕ) (fields : Option (List ℕ)) where
    plain_data : is_statistics kind ≡ false → values_in kind n fields ≡ data_of n fields
    unfolding values_in
    plain_data e = rw e

    paired_data : is_statistics kind ≡ true → values_in kind n fields ≡ as_pairs (pairs_for kind n fields)
    unfolding values_in
    paired_data e = rw e

-- ---- the six fields

module _ (choice : Choice) (l : List ℕ) where
  bad_row : {f g : Fault} {j k : ℕ} → bad f j ≡ bad g k → RowIn choice l f (Some j) → RowIn choice l g (Some k)
  bad_row {f} {g} {j} {k} e row = let fault : f ≡ g = cc in let same : j ≡ k = cc in rw (fault, same) at row

  same_row : {f g : Fault} {a b : Option ℕ} → Refused f a ≡ Refused g b → RowIn choice l f a → RowIn choice l g b
  same_row {f} {g} {a} {b} e row = let fault : f ≡ g = cc in let spot : a ≡ b = cc in rw (fault, spot) at row

module _ (l : List ℕ) (p : fields_above 5 l ≡ true) where
  field_row : (choice : Choice) (k : ℕ) → FirstBad six_forms l k → ¬ (k ≡ 2) → RowIn choice l Fault.Form (Some k)
  field_row choice k f h = form_row (bad_field k p f h)

  read_row : (choice : Choice) (fields : Option (List ℕ)) (fault : Fault) (k : ℕ) (a b c d e f : Option ℤ) → whole_of (field l) ≡ a
      → whole_of (field (after l)) ≡ b → time_of (field (after₂ l)) ≡ c → whole_of (field (after₃ l)) ≡ d → whole_of (field (after₄ l)) ≡ e
      → count_of (field (after₅ l)) ≡ f → read_as a b c d e f fields ≡ bad fault k → RowIn choice l fault (Some k)
  read_row choice fields fault k None b c d e f a₁ b₁ c₁ d₁ e₁ f₁ q =
      bad_row choice l q (field_row choice 0 (here a₁) (λ w. omega arith))
  read_row choice fields fault k (Some a) None c d e f a₁ b₁ c₁ d₁ e₁ f₁ q =
      bad_row choice l q (field_row choice 1 (later a a₁ (here b₁)) (λ w. omega arith))
  read_row choice fields fault k (Some a) (Some b) None d e f a₁ b₁ c₁ d₁ e₁ f₁ q =
      bad_row choice l q (stamp_row (p, later a a₁ (later b b₁ (here c₁)), refl))
  read_row choice fields fault k (Some a) (Some b) (Some c) None e f a₁ b₁ c₁ d₁ e₁ f₁ q =
      bad_row choice l q (field_row choice 3 (later a a₁ (later b b₁ (later c c₁ (here d₁)))) (λ w. omega arith))
  read_row choice fields fault k (Some a) (Some b) (Some c) (Some d) None f a₁ b₁ c₁ d₁ e₁ f₁ q =
      bad_row choice l q (field_row choice 4 (later a a₁ (later b b₁ (later c c₁ (later d d₁ (here e₁))))) (λ w. omega arith))
  read_row choice fields fault k (Some a) (Some b) (Some c) (Some d) (Some e) None a₁ b₁ c₁ d₁ e₁ f₁ q =
      bad_row choice l q (field_row choice 5 (later a a₁ (later b b₁ (later c c₁ (later d d₁ (later e e₁ (here f₁)))))) (λ w. omega arith))
  read_row choice fields fault k (Some a) (Some b) (Some c) (Some d) (Some e) (Some f) a₁ b₁ c₁ d₁ e₁ f₁ q = never (cc)

  row_stamp : FirstBad six_forms l 2 → head_of l ≡ bad Fault.Stamp 2
  row_stamp (later a a₁ (later b b₁ (here c₁))) = head_read l p ∙ rw (a₁, b₁, c₁)

  row_field : (k : ℕ) → FirstBad six_forms l k → ¬ (k ≡ 2) → head_of l ≡ bad Fault.Form k
  row_field k (here a₁) h = head_read l p ∙ rw a₁
  row_field k (later a a₁ (here b₁)) h = head_read l p ∙ rw (a₁, b₁)
  row_field k (later a a₁ (later b b₁ (here c₁))) h = absurd (h refl)
  row_field k (later a a₁ (later b b₁ (later c c₁ (here d₁)))) h = head_read l p ∙ rw (a₁, b₁, c₁, d₁)
  row_field k (later a a₁ (later b b₁ (later c c₁ (later d d₁ (here e₁))))) h = head_read l p ∙ rw (a₁, b₁, c₁, d₁, e₁)
  row_field k (later a a₁ (later b b₁ (later c c₁ (later d d₁ (later e e₁ (here f₁)))))) h = head_read l p ∙ rw (a₁, b₁, c₁, d₁, e₁, f₁)
  row_field _ (later a a₁ (later b b₁ (later c c₁ (later d d₁ (later e e₁ (later f f₁ x)))))) h = elim x [ ]

head_row : (choice : Choice) (l : List ℕ) (fault : Fault) (k : ℕ) → head_of l ≡ bad fault k → RowIn choice l fault (Some k)
unfolding head_of
head_row choice l fault k e = go (fields_above 5 l) refl e
  where
    go : (t : Bool) → fields_above 5 l ≡ t → cond t (six_of (Some l)) (bad Fault.Form 5) ≡ bad fault k → RowIn choice l fault (Some k)
    go true p q = read_row l p choice (rest (after₅ l)) fault k _ _ _ _ _ _ refl refl refl refl refl refl (sym (head_read l p) ∙ e)
    go false p q = bad_row choice l q (form_row (few_fields p))

-- ---- what follows them: to the row

module _ (choice : Choice) (l : List ℕ) (fault : Fault) (spot : Option ℕ) where
  over_row : (s : Six l) (k : ℕ) → Unlisted s.head k → good_end s.head.count s.fields ≡ true → (c : Choice) → choice ≡ c
      → step_over c s.head ≡ Refused fault spot → RowIn choice l fault spot
  unfolding step_over
  over_row s k u g Strict c e = same_row choice l e (strict_row (s, rw (unknown_is u) u, g, c))
  over_row s k u g Lenient c e = never (cc)

  unlisted_row : (s : Six l) (k : ℕ) → Unlisted s.head k → unlisted choice s.head s.fields ≡ Refused fault spot → RowIn choice l fault spot
  unfolding unlisted
  unlisted_row s k u e = go (good_end s.head.count s.fields) refl e
    where
      go : (t : Bool) → good_end s.head.count s.fields ≡ t
          → cond t (step_over choice s.head) (Refused Fault.Form (Some 6)) ≡ Refused fault spot → RowIn choice l fault spot
      go true g e = over_row s k u g choice refl e
      go false g e = same_row choice l e (form_row (bad_end s k u g))

  module _ (p : OnPlace l) where
    lacks_row : (values : Data) → data_in p.six ≡ Ok values → ¬ (part_of p.six.head.kind p.six.head.event ≡ Part.Neither)
        → message_of values ≡ None → RowIn choice l Fault.NoMessage (Some (lacking p.six.head values))
    lacks_row values is part m =
        let good = sym (plain_data _ _ _ (no_statistics _ _ part)) ∙ is in
        message_row (record { place = p; values = values; well_formed = is; sends_or_receives = part; lacks = lacks p.six.head p.six.fields values good m })

    role_row : (values : Data) → data_in p.six ≡ Ok values → (x : Part) → part_of p.six.head.kind p.six.head.event ≡ x
        → (o : Option Message) → message_of values ≡ o → with_role p.six.head p.processor values (role_of x values) ≡ Refused fault spot
        → RowIn choice l fault spot
    unfolding with_role role_of
    role_row values is Part.Neither part o m e = never (cc)
    role_row values is Part.Sends part None m e = same_row choice l (rw m at e) (lacks_row values is (λ q. never (cc)) m)
    role_row values is Part.Sends part (Some x) m e = let f = rw m at e in never (cc)
    role_row values is Part.Receives part None m e = same_row choice l (rw m at e) (lacks_row values is (λ q. never (cc)) m)
    role_row values is Part.Receives part (Some x) m e = let f = rw m at e in never (cc)

    bad_values_row : (k : ℕ) → data_in p.six ≡ Err k → RowIn choice l Fault.Form (Some k)
    bad_values_row k is = go (is_statistics p.six.head.kind) refl
      where
        go : (t : Bool) → is_statistics p.six.head.kind ≡ t → RowIn choice l Fault.Form (Some k)
        go true t = form_row (bad_pairs p k t (pairs_row _ _ _ k (sym (paired_data _ _ _ t) ∙ is)))
        go false t = form_row (bad_data p k t (data_row _ _ k (sym (plain_data _ _ _ t) ∙ is)))

    values_row : (d : Result Data ℕ) → data_in p.six ≡ d
        → with_data p.six.head p.processor (part_of p.six.head.kind p.six.head.event) d ≡ Refused fault spot → RowIn choice l fault spot
    unfolding with_data
    values_row (Err k) is e = same_row choice l e (bad_values_row k is)
    values_row (Ok values) is e = role_row values is _ refl _ refl e

  listed_row : (s : Six l) → ListedHead s.head → listed_line s.head s.fields ≡ Refused fault spot → RowIn choice l fault spot
  unfolding listed_line on_place
  listed_row s h e = go (placed s.head.processor s.head.process) refl e
    where
      go : (o : Option ℕ) → placed s.head.processor s.head.process ≡ o → on_place s.head s.fields o ≡ Refused fault spot
          → RowIn choice l fault spot
      go None q e = same_row choice l e (place_row (s, h, off_place s.head q))
      go (Some processor) q e = values_row (record { six = s; listed = h; processor = processor; place = q }) _ refl e

  sorted_row : (s : Six l) → listed_kind s.head.kind ≡ true → (x : Standing) → standing_for s.head.kind s.head.event ≡ x
      → sorted choice s.head s.fields x ≡ Refused fault spot → RowIn choice l fault spot
  unfolding sorted
  sorted_row s k Standing.NotHandled q e = same_row choice l e (handled_row (s, k, q, refl))
  sorted_row s k Standing.Unlisted q e = unlisted_row s 1 (by_event k q) e
  sorted_row s k Standing.Message q e = listed_row s (k, inr q) e
  sorted_row s k Standing.Listed q e = listed_row s (k, inl q) e

  six_row : (s : Six l) → begun choice (six s.head s.fields) ≡ Refused fault spot → RowIn choice l fault spot
  unfolding begun
  six_row s e = go (listed_kind s.head.kind) refl e
    where
      go : (t : Bool) → listed_kind s.head.kind ≡ t
          → cond t (sorted choice s.head s.fields (standing_for s.head.kind s.head.event)) (unlisted choice s.head s.fields) ≡ Refused fault spot
          → RowIn choice l fault spot
      go true k e = sorted_row s k _ refl e
      go false k e = unlisted_row s 0 (by_kind k) e

  pub refused_row : line_of choice l ≡ Refused fault spot → RowIn choice l fault spot
  unfolding line_of begun
  refused_row e = go (head_of l) refl e
    where
      go : (b : Begun) → head_of l ≡ b → begun choice b ≡ Refused fault spot → RowIn choice l fault spot
      go (bad f k) p e = same_row choice l e (head_row choice l f k p)
      go (six h fields) p e = six_row (record { head = h; fields = fields; good = p }) e

-- ---- and back

module _ (choice : Choice) (l : List ℕ) where
  bad_line : (fault : Fault) (k : ℕ) → head_of l ≡ bad fault k → line_of choice l ≡ Refused fault (Some k)
  unfolding line_of begun
  bad_line fault k e = rw e

  unlisted_line : (s : Six l) (k : ℕ) → Unlisted s.head k → line_of choice l ≡ unlisted choice s.head s.fields
  unfolding line_of begun sorted
  unlisted_line s k (by_kind e) = rw (s.good, e)
  unlisted_line s k (by_event e u) = rw (s.good, e, u)

  listed_line_lem : (s : Six l) → ListedHead s.head → line_of choice l ≡ listed_line s.head s.fields
  unfolding line_of begun sorted
  listed_line_lem s (k, inl e) = rw (s.good, k, e)
  listed_line_lem s (k, inr e) = rw (s.good, k, e)

  placed_line : (p : OnPlace l)
      → line_of choice l ≡ with_data p.six.head p.processor (part_of p.six.head.kind p.six.head.event) (data_in p.six)
  unfolding listed_line on_place
  placed_line p = listed_line_lem p.six p.listed ∙ rw p.place

  form_line : (k : ℕ) → BadForm l k → line_of choice l ≡ Refused Fault.Form (Some k)
  unfolding head_of unlisted with_data
  form_line k (few_fields e) = bad_line Fault.Form 5 (rw e)
  form_line k (bad_field j p f h) = bad_line Fault.Form j (row_field l p j f h)
  form_line k (bad_end s j u e) = unlisted_line s j u ∙ rw e
  form_line k (bad_data p j t b) = placed_line p ∙ rw (plain_data _ _ _ t ∙ row_data b)
  form_line k (bad_pairs p j t b) = placed_line p ∙ rw (paired_data _ _ _ t ∙ row_pairs _ b)

  module _ (p : OnPlace l) where
    without : (values : Data) → message_of values ≡ None → (x : Part) → ¬ (x ≡ Part.Neither)
        → with_role p.six.head p.processor values (role_of x values) ≡ Refused Fault.NoMessage (Some (lacking p.six.head values))
    unfolding with_role role_of
    without values m Part.Neither h = absurd (h refl)
    without values m Part.Sends h = rw m
    without values m Part.Receives h = rw m

  message_line : (k : ℕ) → NoMessage l k → line_of choice l ≡ Refused Fault.NoMessage (Some k)
  unfolding with_data
  message_line k n =
      let good = sym (plain_data _ _ _ (no_statistics _ _ n.sends_or_receives)) ∙ n.well_formed in
      let (no_message, field) = lacks_back n.place.six.head n.place.six.fields n.values good k n.lacks in
      placed_line n.place ∙ rw n.well_formed (without n.place n.values no_message _ n.sends_or_receives ∙ rw field)

  pub row_refused : {fault : Fault} {spot : Option ℕ} → RowIn choice l fault spot → line_of choice l ≡ Refused fault spot
  unfolding unlisted step_over line_of begun sorted listed_line on_place
  row_refused (form_row {k = k} h) = form_line k h
  row_refused (stamp_row (p, f, z)) = rw z (bad_line Fault.Stamp 2 (row_stamp l p (rw z at f)))
  row_refused (strict_row {k = k} (s, u, e, c)) = unlisted_line s k u ∙ rw (e, c, unknown_is u)
  row_refused (handled_row (s, k, e, z)) = rw (s.good, k, e, z)
  row_refused (place_row (s, h, o)) = let (e, k) = place_off o in listed_line_lem s h ∙ rw (e, k)
  row_refused (message_row {k = k} h) = message_line k h
