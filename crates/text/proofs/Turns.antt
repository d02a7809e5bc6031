-- A line's sayings put over those before it, and the loop over the lines: what is left gives with what was said the whole.
use Rattle.std.specs.Prelude.{Option, Some, None, Ok, Err}
use Prim.Native.Nat.{ℕ, ◌+◌, ◌-◌, ◌/◌, ◌%◌, ◌≤◌, ◌<◌}
use mathlib.Core.Path.{◌≡◌, refl, sym, ap, ◌∙◌}
use mathlib.Core.Bool.{Bool, true, false, cond, ◌&&◌}
use mathlib.Core.List.{List, []}
use native.Mathlib.Omega.{arith}
use lib.ListN.{length, take, drop, get_or, drop_of_length-le}
use lib.Dec.{eqb}
use borrow.Author.Tests.{eqb-true, eqb-false, le-leb}
use Rattle.octets.specs.Octets.{index_of}
use Rattle.paper.specs.Reading.{Lines, done, unended, ended, lines_of}
use Rattle.reading.proofs.Found.{found_at, unended_here, ended_here}
use Rattle.rule.specs.Rule.{covers, over, meaning_of}
use Rattle.rule.specs.declared.Rule.{Rule}
use Rattle.rule.specs.declared.BadLine as rule
use Rattle.rule.proofs.Low.{sets_low}
use Rattle.text.specs.Text.{bad_or, first_bad, said_of, on_bad}
use Rattle.text.specs.Held.{said_by, held, SaidInto, LinesRead}
use Rattle.text.specs.declared.Unmade.TheVariants.{BadLine}

-- ---- one line

module _ (before after : List ℕ) where
  said_long : (said : Option Rule) → SaidInto said before after → length after ≡ length before
  unfolding SaidInto
  said_long None e = ap length e
  said_long (Some rule) set = set.long

  said_over : (said : Option Rule) → ((rule : Rule) → said ≡ Some rule → rule.latency ≤ 1000000) → SaidInto said before after
      → (k : ℕ) → k < 4096 → held after k ≡ over (k / 64) (k % 64) (held before k) (Ok said)
  unfolding SaidInto over held said_by
  said_over None low e k h = rw e
  said_over (Some rule) low set k h = rw (set.holds k h) (go (covers rule.sender (k / 64) && covers rule.receiver (k % 64)) (get_or before k 0))
    where
      go : (t : Bool) (x : ℕ) → said_by (cond t rule.latency x) ≡ cond t (Some rule.latency) (said_by x)
      go true x = rw (le-leb rule.latency 1000000 (low rule refl))
      go false x = refl

-- ---- the first line from a place on, and those behind it

module _ (text : List ℕ) (at end : ℕ) (some_left : at < length text) (found : end ≡ at + index_of 10 (drop at text)) (within : end ≤ length text) where
  none_behind : end ≡ length text → lines_of (drop (end + 1) text) ≡ done
  unfolding lines_of
  none_behind e = rw (drop_of_length-le text {i = end + 1} (omega arith))

  -- whatever takes a last line without its LF as one with it
  line_on : {A : Type 0} (f : Lines → A) (g : List ℕ → Lines → A) → ((l : List ℕ) → f (unended l) ≡ g l done) → ((l : List ℕ) (more : Lines) → f (ended l more) ≡ g l more)
      → f (lines_of (drop at text)) ≡ g (take (end - at) (drop at text)) (lines_of (drop (end + 1) text))
  line_on f g last other = go (eqb end (length text)) refl
    where
      go : (t : Bool) → eqb end (length text) ≡ t → f (lines_of (drop at text)) ≡ g (take (end - at) (drop at text)) (lines_of (drop (end + 1) text))
      go true e = let q = eqb-true end (length text) e in rw (unended_here text at end found some_left q, none_behind q) (last _)
      go false e = rw (ended_here text at end found (eqb-false end (length text) e) within) (other _ _)

  bad_on : (n : ℕ) → first_bad n (lines_of (drop at text)) ≡ bad_or n (meaning_of (take (end - at) (drop at text))) (first_bad (n + 1) (lines_of (drop (end + 1) text)))
  unfolding first_bad
  bad_on n = line_on (first_bad n) (λ l more. bad_or n (meaning_of l) (first_bad (n + 1) more)) (λ l. refl) (λ l more. refl)

  said_on : (s r : ℕ) (old : Option ℕ)
      → said_of s r old (lines_of (drop at text)) ≡ said_of s r (over s r old (meaning_of (take (end - at) (drop at text)))) (lines_of (drop (end + 1) text))
  unfolding said_of
  said_on s r old = line_on (said_of s r old) (λ l more. said_of s r (over s r old (meaning_of l)) more) (λ l. refl) (λ l more. refl)

-- ---- the loop

pub record Going (text before now : List ℕ) (at n : ℕ) : Type 0 where
  pub long : length now ≡ length before
  pub inside : at ≤ length text + 1
  pub line : n ≤ at + 1
  pub bad : first_bad n (lines_of (drop at text)) ≡ first_bad 1 (lines_of text)
  pub said : (k : ℕ) → k < 4096 → said_of (k / 64) (k % 64) (held now k) (lines_of (drop at text)) ≡ said_of (k / 64) (k % 64) (held before k) (lines_of text)

module _ {text before now : List ℕ} {at n : ℕ} (going : Going text before now at n) where
  pub at_end : length text ≤ at → LinesRead text before (Ok tt) now
  unfolding on_bad first_bad said_of lines_of
  at_end h =
      let over : drop at text ≡ [] = drop_of_length-le text h in
      let none_bad : None ≡ first_bad 1 (lines_of text) = rw over at going.bad in
      record {
        tells = rw (← none_bad);
        long = going.long;
        holds = λ z k m. rw over at (going.said k m);
      }

  module _ {end : ℕ} (some_left : at < length text) (found : end ≡ at + index_of 10 (drop at text)) (within : end ≤ length text) where
    pub line_bad : {bad : rule.BadLine} → meaning_of (take (end - at) (drop at text)) ≡ Err bad → LinesRead text before (Err (BadLine n)) now
    unfolding on_bad bad_or
    line_bad e =
        let there : Some n ≡ first_bad 1 (lines_of text) = sym (bad_on text at end some_left found within n ∙ rw e) ∙ going.bad in
        record { tells = rw (← there); long = going.long; holds = λ z. cc }

    module _ {said : Option Rule} (is : meaning_of (take (end - at) (drop at text)) ≡ Ok said) {after : List ℕ} (put : SaidInto said now after) where
      pub line_good : Going text before after (end + 1) (n + 1)
      unfolding bad_or
      line_good =
          let low = λ (rule : Rule) (e : said ≡ Some rule). sets_low _ rule (is ∙ ap Ok e) in
          record {
            long = said_long now after said put ∙ going.long;
            inside = omega arith;
            line = omega (arith, going.line, found_at text at end found);
            bad = sym (bad_on text at end some_left found within n ∙ rw is) ∙ going.bad;
            said = λ k m. rw (said_over now after said low put k m, ← is) (sym (said_on text at end some_left found within (k / 64) (k % 64) (held now k)) ∙ going.said k m);
          }
