-- The pairs of a line: those that are left, with what was found before them, come to what all come to.
use Rattle.std.specs.Prelude.{Option, Result, Some, None, Ok, Err}
use Rattle.std.proofs.Common.{◌≡◌, ℕ, zero, suc, ◌-◌, ◌<◌, ◌≤◌, Bool, true, false, cond, ◌||◌, List, length, ℤ, pos, sym, refl, ap, ◌∙◌, arith, le-leb}
use borrow.Author.Tests.{lt-leb}
use Rattle.paper.specs.Text.{is_same}
use Rattle.paper.specs.Forms.{whole_of, times_quoted, numbers_quoted, text_of}
use Rattle.paper.specs.Line.{field, rest, nothing, first, on_field, first_of, bad, six, head_of, Pairs, unpaired, pairs, paired, pairs_of, pairs_for, quoted_for, told_for}
use Rattle.paper.specs.Statistics.{any_differs, in_pairs, pairs_behind, pairs_in, is_compared, line_differs}
use Rattle.paper.specs.declared.Fault.{Fault}
use Rattle.paper.specs.declared.Head.{Head}
use Rattle.forms.proofs.Tests.{never}
use Rattle.forms.proofs.Goods.{whole_in_range, time_in_range}
use Rattle.reading.specs.Places.{line_at}
use Rattle.reading.specs.Tidy.{InRange}
use Rattle.reading.proofs.Starts.{line_starts, start_within}
use Rattle.field.specs.Cursor.{rest_at, read_as, Tells}
use Rattle.field.specs.declared.Form.{Form}
use Rattle.field.proofs.Cursors.{past, inside}
use Rattle.fields.specs.Cursor.{begun_of, begun_next}
use Rattle.store.specs.Layout.{entry_from, start_from}
use Rattle.statistics.proofs.Tells.{or_false}
use Rattle.statistics.specs.Ready.{Stands, pair_differs, pairs_differ, behind_found, differs_at}

-- ---- what is told has a range in every form

text_zero : (text s : List ℕ) (v : ℤ) → text_of text s ≡ Some v → InRange v
unfolding text_of
text_zero text s v e = go (is_same s text) e
  where
    go : (t : Bool) → cond t (Some (pos 0)) None ≡ Some v → InRange v
    go true e = let zero : pos 0 ≡ v = cc in rw (← zero) (omega arith)
    go false e = never (cc)

in_form : (form : Form) (s : List ℕ) (v : ℤ) → read_as form s ≡ Some v → InRange v
unfolding read_as times_quoted numbers_quoted
in_form Form.Whole s v e = omega (arith, whole_in_range s v e)
in_form Form.Time s v e = time_in_range s v e
in_form Form.TimesQuoted s v e = text_zero _ s v e
in_form Form.NumbersQuoted s v e = text_zero _ s v e

pub told_in_range : (form : Form) (f : Option (List ℕ)) (v : ℤ) (g : Option (List ℕ)) → first_of (read_as form) f ≡ first v g → InRange v
unfolding first_of
told_in_range form None v g e = never (cc)
told_in_range form (Some l) v g e = go (read_as form (field l)) refl e
  where
    go : (x : Option ℤ) → read_as form (field l) ≡ x → on_field x nothing (λ u. first u (rest l)) ≡ first v g → InRange v
    go None is e = never (cc)
    go (Some u) is e = let same : u ≡ v = cc in in_form form (field l) v (is ∙ ap Some same)

-- ---- one pair more

or_assoc : (a b c : Bool) → (a || (b || c)) ≡ ((a || b) || c)
or_assoc true b c = refl
or_assoc false b c = refl

module _ (l : List ℕ) (n i : ℕ) where
  abbrev Found : Bool → Pairs → Bool
  Found found x = behind_found l n i found x

  one_more : (found : Bool) (event v : ℤ) (x : Pairs) → Found found (paired event v x) ≡ Found (found || pair_differs l n i event v) x
  unfolding behind_found any_differs
  one_more found event v (unpaired k) = refl
  one_more found event v (pairs ps) = or_assoc found _ _

  module _ (form : List ℕ → Option ℤ) (found : Bool) (k : ℕ) (f : Option (List ℕ)) where
    pub no_event : (left : ℕ) → 0 < left → first_of whole_of f ≡ nothing → false ≡ Found found (pairs_of form k left f)
    unfolding pairs_of behind_found
    no_event zero h e = absurd (omega arith)
    no_event (suc left) h e = rw e

    module _ (event : ℤ) (g : Option (List ℕ)) (first_is : first_of whole_of f ≡ first event g) where
      pub no_value : (left : ℕ) → 0 < left → first_of form g ≡ nothing → false ≡ Found found (pairs_of form k left f)
      unfolding pairs_of behind_found
      no_value zero h e = absurd (omega arith)
      no_value (suc left) h e = rw (first_is, e)

      pub pair_more : (left : ℕ) → 0 < left → (v : ℤ) (next : Option (List ℕ)) → first_of form g ≡ first v next
          → {told : Bool} → told ≡ pair_differs l n i event v
          → Found found (pairs_of form k left f) ≡ Found (found || told) (pairs_of form (suc (suc k)) (left - 1) next)
      unfolding pairs_of
      pair_more zero h v next e d = absurd (omega arith)
      pair_more (suc left) h v next e d =
          let less : suc left - 1 ≡ left = omega arith in
          rw (less, first_is, e, d) (one_more found event v (pairs_of form (suc (suc k)) left next))

  pub same_pair : {e event z told : ℤ} {r : Bool} → r ≡ pair_differs l n i e z → e ≡ event → z ≡ told → r ≡ pair_differs l n i event told
  same_pair a b c = rw (a, b, c)

  -- so many pairs in a form are left, from some field on, of these
  pub record Left (form : List ℕ → Option ℤ) (all : Pairs) (found : Bool) (left : ℕ) (f : Option (List ℕ)) : Type 0 where
    pub from : ℕ
    pub same : Found false all ≡ Found found (pairs_of form from left f)

  -- no pair is left
  module _ (form : List ℕ → Option ℤ) (found : Bool) (k left : ℕ) (s : List ℕ) (at : ℕ) (all : left ≤ 0) where
    none_left : left ≡ 0
    none_left = omega arith

    pub pairs_end : length s < at → found ≡ Found found (pairs_of form k left (rest_at s at))
    unfolding pairs_of behind_found any_differs
    pairs_end h = rw (none_left, past s at h) (or_false found)

    pub pairs_more : at ≤ length s → false ≡ Found found (pairs_of form k left (rest_at s at))
    unfolding pairs_of behind_found
    pairs_more h = rw (none_left, inside s at h)

  -- ---- the descriptor

  module _ {kind u : ℤ} (same : u ≡ kind) (f : Option (List ℕ)) where
    pub no_pairs : (m : ℕ) → m ≡ 0 → false ≡ Found false (pairs_for kind m f)
    unfolding pairs_for pairs_of behind_found any_differs
    no_pairs m e = rw e (go f)
      where
        go : (f : Option (List ℕ)) → false ≡ Found false (pairs_of (told_for kind) 6 0 f)
        go None = refl
        go (Some s) = refl

    pub too_many_lem : (m : ℕ) → 16 < m → false ≡ Found false (pairs_for kind m f)
    unfolding pairs_for behind_found
    too_many_lem zero h = absurd (omega arith)
    too_many_lem (suc m) h = rw (lt-leb (suc m) 16 h)

    module _ {quoted : List ℕ → Option ℤ} (is-quoted : quoted ≡ quoted_for u) where
      pub no_quote : (m : ℕ) → (m ≡ 0 → ⊥) → m ≤ 16 → first_of quoted f ≡ nothing → false ≡ Found false (pairs_for kind m f)
      unfolding pairs_for behind_found
      no_quote zero some-are few e = absurd (some-are refl)
      no_quote (suc m) some-are few e = rw (le-leb (suc m) 16 few, ← same, ← is-quoted, e)

      pub quote : (m : ℕ) → (m ≡ 0 → ⊥) → m ≤ 16 → {told : List ℕ → Option ℤ} → told ≡ told_for u → (d : ℤ) (g : Option (List ℕ)) → first_of quoted f ≡ first d g
          → Found false (pairs_of told 7 m g) ≡ Found false (pairs_for kind m f)
      unfolding pairs_for
      quote zero some-are few is_told d g e = absurd (some-are refl)
      quote (suc m) some-are few is_told d g e = rw (le-leb (suc m) 16 few, ← same, ← is-quoted, e, is_told)

  -- ---- the line

  found_none : (x : Pairs) → Found false x ≡ pairs_differ l n i (in_pairs x)
  unfolding behind_found any_differs
  found_none (unpaired k) = refl
  found_none (pairs ps) = refl

  module _ (s : List ℕ) (r : Result (Head × ℕ) (Fault × ℕ)) (told : Tells s (begun_of s r) (head_of s) (begun_next r)) where
    pub no_head : (fault : Fault) (k : ℕ) → r ≡ Err (fault, k) → false ≡ pairs_differ l n i (pairs_in s)
    unfolding pairs_in pairs_behind begun_of any_differs
    no_head fault k e = let is : head_of s ≡ bad fault k = sym told.is ∙ ap (begun_of s) e in rw is

    pub with_head : (h : Head) (next : ℕ) → r ≡ Ok (h, next) → {kind : ℤ} → kind ≡ h.kind → {d : Bool} → d ≡ Found false (pairs_for kind h.count (rest_at s next))
        → d ≡ pairs_differ l n i (pairs_in s)
    unfolding pairs_in pairs_behind begun_of
    with_head h next e k d =
        let is : head_of s ≡ six h (rest_at s next) = sym told.is ∙ ap (begun_of s) e in
        d ∙ rw (is, k) (found_none (pairs_for h.kind h.count (rest_at s next)))

  -- ---- the record

  module _ (trace : List ℕ) {compared : Bool} (tells : compared ≡ is_compared (entry_from l i).body) where
    pub not_compared : compared ≡ false → false ≡ differs_at trace l n i
    unfolding line_differs
    not_compared t = rw (← tells, t)

    pub line_compared : compared ≡ true → {start : ℕ} → start ≡ start_from l i → {s : List ℕ} → s ≡ line_at trace start
        → {d : Bool} → d ≡ pairs_differ l n i (pairs_in s) → Stands trace l i → d ≡ differs_at trace l n i
    unfolding line_differs
    line_compared t at is d stands = d ∙ rw (← tells, t, is, at, stands, ← line_starts trace (entry_from l i).line)

  -- no line starts behind the trace
  pub never_behind : (trace : List ℕ) {start : ℕ} → start ≡ start_from l i → length trace < start → Stands trace l i → false ≡ differs_at trace l n i
  never_behind trace at h stands = absurd (omega (arith, at, stands, start_within trace (entry_from l i).line))
