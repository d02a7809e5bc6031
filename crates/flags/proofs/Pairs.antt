-- What is given with a pair, over the spans that the code keeps; and the loop: the words that are left give, with what was given, the
-- whole.
use Rattle.std.specs.Prelude.{Option, Result, Some, None, Err, is_some}
use Prim.Native.Nat.{ℕ, ◌+◌, ◌-◌, ◌≤◌, ◌<◌}
use mathlib.Core.Path.{◌≡◌, refl, sym, ap, ◌∙◌}
use mathlib.Core.Bool.{Bool, true, false, cond, ◌&&◌, not}
use mathlib.Core.List.{List, [], ◌∷◌}
use native.Mathlib.Omega.{arith}
use lib.ListN.{length, drop, length-drop, drop_of_length-le}
use lib.Dec.{leb}
use borrow.Author.Tests.{leb-true, leb-false}
use Rattle.named.specs.Words.{words_of}
use Rattle.named.specs.Values.{name_of, forgotten}
use Rattle.flags.specs.Plan.{Values, no_values, value_of, with_value, is_given, accepts, taken, concluded, on_pair, plan_from, plan_of}
use Rattle.named.specs.Parts.{cut, Within, WordAt}
use Rattle.flags.specs.Spans.{value_in, plan_in, Planned}
use Rattle.flags.specs.Parts.{no_spans, span_of, with_span, values_in, Held, accepted, turn_in, Turned}
use Rattle.named.specs.declared.Span.{Span}
use Rattle.named.specs.declared.Name.{Name}
use Rattle.named.specs.declared.Name.TheVariants.{Choice, Trace, Table, Levels, Statistics, Share, Out}
use Rattle.flags.specs.declared.given.Given.{Given}
use Rattle.named.proofs.Cuts.{none_first, first_word}
use Rattle.named.proofs.Forms.{empty_bad}
use Rattle.flags.specs.declared.Lack.{Lack}
use Rattle.flags.specs.declared.Wishes.{Wishes}

-- ---- spans and values

module _ (line : List ℕ) where
  value_there : (name : Name) (given : Given) → value_of name (values_in line given) ≡ value_in line (span_of name given)
  unfolding value_of values_in span_of
  value_there Choice given = refl
  value_there Trace given = refl
  value_there Table given = refl
  value_there Levels given = refl
  value_there Statistics given = refl
  value_there Share given = refl
  value_there Out given = refl

  given_there : (span : Option Span) → is_given (value_in line span) ≡ is_some span
  unfolding is_given value_in
  given_there None = refl
  given_there (Some span) = refl

  accepted_there : (given : Given) (name : Name) (value : List ℕ) → accepts name value (values_in line given) ≡ accepted given name value
  unfolding accepts accepted
  accepted_there given name value = rw (value_there name given, given_there (span_of name given))

  with_there : (name : Name) (span : Span) (given : Given) → with_value name (cut line span) (values_in line given) ≡ values_in line (with_span name span given)
  unfolding with_value values_in with_span value_in
  with_there Choice span given = refl
  with_there Trace span given = refl
  with_there Table span given = refl
  with_there Levels span given = refl
  with_there Statistics span given = refl
  with_there Share span given = refl
  with_there Out span given = refl

  held_with : (name : Name) (span : Span) (given : Given) → Held line given → Within line span → Held line (with_span name span given)
  unfolding with_span
  held_with Choice span given h w = record { choice = w; trace = h.trace; table = h.table; levels = h.levels; statistics = h.statistics; share = h.share; out = h.out }
  held_with Trace span given h w = record { choice = h.choice; trace = w; table = h.table; levels = h.levels; statistics = h.statistics; share = h.share; out = h.out }
  held_with Table span given h w = record { choice = h.choice; trace = h.trace; table = w; levels = h.levels; statistics = h.statistics; share = h.share; out = h.out }
  held_with Levels span given h w = record { choice = h.choice; trace = h.trace; table = h.table; levels = w; statistics = h.statistics; share = h.share; out = h.out }
  held_with Statistics span given h w = record { choice = h.choice; trace = h.trace; table = h.table; levels = h.levels; statistics = w; share = h.share; out = h.out }
  held_with Share span given h w = record { choice = h.choice; trace = h.trace; table = h.table; levels = h.levels; statistics = h.statistics; share = w; out = h.out }
  held_with Out span given h w = record { choice = h.choice; trace = h.trace; table = h.table; levels = h.levels; statistics = h.statistics; share = h.share; out = w }

-- ---- a pair taken

module _ (line : List ℕ) (given : Given) (name value : Span) where
  refuses : None ≡ taken (name_of (cut line name)) (cut line value) (values_in line given) → Turned line given name value None
  unfolding turn_in
  refuses e = record { is = e; held = λ next q. cc }

  module _ {found : Option Name} (tells : found ≡ name_of (cut line name)) where
    pub unknown : found ≡ None → Turned line given name value None
    unfolding taken
    unknown e = refuses (rw (← tells, e))

    module _ {known : Name} (is_name : found ≡ Some known) {told : Bool} (test : told ≡ accepted given known (cut line value)) where
      name_there : name_of (cut line name) ≡ Some known
      name_there = sym tells ∙ is_name

      test_there : (t : Bool) → told ≡ t → accepts known (cut line value) (values_in line given) ≡ t
      test_there t e = accepted_there line given known (cut line value) ∙ sym test ∙ e

      pub refused : told ≡ false → Turned line given name value None
      unfolding taken
      refused e = refuses (rw (name_there, test_there false e))

      pub goes_on_lem : {next : Given} → told ≡ true → Held line given → Within line value → next ≡ with_span known value given → Turned line given name value (Some next)
      unfolding taken turn_in
      goes_on_lem {next} e held inside is =
          record {
            is = rw (name_there, test_there true e, is, with_there line known value given);
            held = λ other q. let same : other ≡ with_span known value given = cc in rw same (held_with line known value given held inside);
          }

-- ---- the loop

-- a name at the end of the line has an empty value, and is refused
none_taken : (name : Option Name) (v : Values) → taken name [] v ≡ None
unfolding taken accepts
none_taken None v = refl
none_taken (Some name) v = rw (empty_bad name) (go (is_given (value_of name v)) (forgotten []))
  where
    go : (a b : Bool) → cond (not a && (not b && false)) (Some (with_value name [] v)) None ≡ None
    go true b = refl
    go false true = refl
    go false false = refl

none_given : (line : List ℕ) → values_in line no_spans ≡ no_values
unfolding values_in no_spans no_values value_in
none_given line = refl

pub record Going (separator : ℕ) (line : List ℕ) (given : Given) (at : ℕ) : Type 0 where
  pub held : Held line given
  pub inside : at ≤ length line + 1
  pub left : plan_from (values_in line given) (words_of separator (drop at line)) ≡ plan_of (words_of separator line)

pub going_start : (separator : ℕ) (line : List ℕ) {given : Given} → given ≡ no_spans → Going separator line given 0
unfolding no_spans plan_of
going_start separator line e =
    rw e (record {
      held = record { choice = tt; trace = tt; table = tt; levels = tt; statistics = tt; share = tt; out = tt };
      inside = omega arith;
      left = rw (none_given line);
    })

module _ {separator : ℕ} {line : List ℕ} {given : Given} {at : ℕ} (going : Going separator line given at) where
  pub at_end : {plan : Result Wishes Lack} → length line ≤ at → Planned line (concluded (values_in line given)) plan → Planned line (plan_of (words_of separator line)) plan
  unfolding plan_from words_of
  at_end h p =
      let over : drop at line ≡ [] = drop_of_length-le line h in
      let all : concluded (values_in line given) ≡ plan_of (words_of separator line) = rw over at going.left in
      rw (← all) p

  module _ {name value : Span} {turn : Option Given} (some_left : at < length line) (first : WordAt separator line at name) (second : WordAt separator line (name.to + 1) value)
      (turned : Turned line given name value turn) where
    -- the words from the name's place on, told by the name and what stands behind it
    name_first : words_of separator (drop at line) ≡ cut line name ∷ words_of separator (drop (name.to + 1) line)
    name_first = first_word separator (drop at line) (rw length-drop (omega arith)) ∙ rw (first.is, first.rest)

    pair_here : plan_from (values_in line given) (cut line name ∷ words_of separator (drop (name.to + 1) line))
        ≡ on_pair (cut line name) (turn_in line turn) (λ more. plan_from more (words_of separator (drop (value.to + 1) line)))
    unfolding plan_from on_pair words_of
    pair_here = go (leb (length line) (name.to + 1)) refl
      where
        go : (t : Bool) → leb (length line) (name.to + 1) ≡ t
            → plan_from (values_in line given) (cut line name ∷ words_of separator (drop (name.to + 1) line))
            ≡ on_pair (cut line name) (turn_in line turn) (λ more. plan_from more (words_of separator (drop (value.to + 1) line)))
        go true q =
            let over : drop (name.to + 1) line ≡ [] = drop_of_length-le line (leb-true (length line) (name.to + 1) q) in
            let empty : cut line value ≡ [] = second.is ∙ rw over (none_first separator) in
            rw (turned.is, empty, none_taken (name_of (cut line name)) (values_in line given), over)
        go false q =
            let some_behind : 0 < length (drop (name.to + 1) line) = rw length-drop (omega (arith, leb-false (length line) (name.to + 1) q)) in
            let words : words_of separator (drop (name.to + 1) line) ≡ cut line value ∷ words_of separator (drop (value.to + 1) line) = first_word separator (drop (name.to + 1) line) some_behind ∙ rw (second.is, second.rest) in
            rw (words, turned.is)

    all_here : on_pair (cut line name) (turn_in line turn) (λ more. plan_from more (words_of separator (drop (value.to + 1) line))) ≡ plan_of (words_of separator line)
    all_here = sym (ap (plan_from (values_in line given)) name_first ∙ pair_here) ∙ going.left

    pub pair_bad : turn ≡ None → Planned line (plan_of (words_of separator line)) (Err (Lack.Bad name))
    unfolding plan_in on_pair turn_in
    pair_bad e =
        record {
          is = rw e at all_here;
          word_within = λ word q. let same : word ≡ name = cc in rw same first.within;
          wishes_within = λ wishes q. cc;
        }

    pub pair_good : {next : Given} → turn ≡ Some next → Going separator line next (value.to + 1)
    unfolding on_pair turn_in
    pair_good {next} e = record { held = turned.held next e; inside = omega (arith, second.within.inside); left = rw e at all_here }

    pub further : length line - (value.to + 1) < length line - at
    further = omega (arith, first.starts, first.within.ordered, second.starts, second.within.ordered)
