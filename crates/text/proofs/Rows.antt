-- A span filled, a row for each sender filled, and so a rule set.
use Prim.Native.Nat.{ℕ, ◌+◌, ◌-◌, ◌*◌, ◌/◌, ◌%◌, ◌≤◌, ◌<◌}
use mathlib.Core.Path.{◌≡◌, refl, sym, ◌∙◌}
use mathlib.Core.Bool.{Bool, true, false}
use mathlib.Core.List.{List}
use native.Mathlib.Omega.{arith}
use lib.ListN.{length, get_or, take, drop, replicate, length-take, length-drop}
use lib.Dec.{eqb, leb, ltb}
use borrow.Rule.Slice.PartMut.{put_mid}
use Rattle.std.proofs.lemmas.List.{places}
use Rattle.std.proofs.lemmas.Grind.{common_steps}
use borrow.Author.Tests.{eqb-true, eqb-false, ne_eqb, leb-true, leb-false, ltb-true, ltb-false}
use Rattle.rule.specs.Rule.{covers}
use Rattle.rule.specs.declared.Who.{Who}
use Rattle.rule.specs.declared.Who.TheVariants.{Every, One}
use Rattle.rule.specs.declared.Rule.{Rule}
use Rattle.text.specs.Held.{within, Spans, filled, Filled, rows_filled, RowsFilled, RuleSet}
use Rattle.text.specs.declared.spans.Span.{Span}
use Rattle.text.proofs.Within.{inside, outside, same_within}

-- ---- the span of a word

pub every_span : {who : Who} → who ≡ Every → Spans who (record { from = 0; to = 64 })
unfolding covers
every_span e = record { low = omega arith; high = omega arith; tells = λ p h. rw e (sym (inside 0 64 p (omega arith) h)) }

pub past_span : {who : Who} (processor : ℕ) → who ≡ One processor → 64 ≤ processor → Spans who (record { from = 0; to = 0 })
unfolding covers
past_span processor e h =
    rw e (record {
      low = omega arith;
      high = omega arith;
      tells = λ p m. ne_eqb processor p (λ q. omega arith) ∙ sym (outside 0 0 p (λ a b. omega arith));
    })

pub one_span : {who : Who} (processor : ℕ) → who ≡ One processor → processor < 64 → Spans who (record { from = processor; to = processor + 1 })
unfolding covers
one_span processor is h = rw is (record { low = omega arith; high = omega arith; tells = λ p m. go p (eqb processor p) refl })
  where
    go : (p : ℕ) (t : Bool) → eqb processor p ≡ t → t ≡ within processor (processor + 1) p
    go p true e = let q = eqb-true processor p e in sym (inside processor (processor + 1) p (omega arith) (omega arith))
    go p false e = let q = eqb-false processor p e in sym (outside processor (processor + 1) p (λ a b. q (omega arith)))

-- ---- one row

pub filled_part : {from to n : ℕ} {before row : List ℕ} → from ≤ to → to ≤ length before → row ≡ replicate (length (take (to - from) (drop from before))) n
    → Filled from to n before (put_mid from (to - from) before row)
unfolding filled
filled_part {from} {to} {n} {before} {row} low high e =
    let many : length (take (to - from) (drop from before)) ≡ to - from = rw (length-take, length-drop) (omega arith) in
    rw (e, many) (record { long = search (arith, places); holds = λ k. go k (leb from k) (ltb k to) refl refl })
  where
    go : (k : ℕ) (s t : Bool) → leb from k ≡ s → ltb k to ≡ t → get_or (put_mid from (to - from) before (replicate (to - from) n)) k 0 ≡ filled from to n before k
    go k true true p q = let h = leb-true from k p in let m = ltb-true k to q in rw (inside from to k h m) (grind (arith, common_steps, places))
    go k true false p q = let h = leb-true from k p in let m = ltb-false k to q in rw (outside from to k (λ a b. omega arith)) (grind (arith, common_steps, places))
    go k false t p q = let h = leb-false from k p in rw (outside from to k (λ a b. omega arith)) (grind (arith, common_steps, places))

-- ---- the rows

pub rows_none : (first from to n : ℕ) (before : List ℕ) → RowsFilled first first from to n before before
unfolding rows_filled
rows_none first from to n before = record { long = refl; holds = λ k. rw (outside first first (k / 64) (λ a b. omega arith)) }

module _ {first from to n : ℕ} {before now after : List ℕ} (s : ℕ) (low : first ≤ s) (high : to ≤ 64)
    (inv : RowsFilled first s from to n before now) (row : Filled (64 * s + from) (64 * s + to) n now after) where
  go : (k : ℕ) (t : Bool) → eqb (k / 64) s ≡ t → filled (64 * s + from) (64 * s + to) n now k ≡ rows_filled first (s + 1) from to n before k
  unfolding filled rows_filled
  go k true e =
      let q : k / 64 ≡ s = eqb-true (k / 64) s e in
      rw (
        same_within (64 * s + from) (64 * s + to) k from to (k % 64) (λ a b. (omega arith, omega arith)) (λ a b. (omega arith, omega arith)),
        inv.holds k,
        outside first s (k / 64) (λ a b. omega arith),
        inside first (s + 1) (k / 64) (omega arith) (omega arith),
      )
  go k false e =
      let q = eqb-false (k / 64) s e in
      rw (
        outside (64 * s + from) (64 * s + to) k (λ a b. q (omega arith)),
        inv.holds k,
        same_within first s (k / 64) first (s + 1) (k / 64) (λ a b. (a, omega arith)) (λ a b. (a, omega arith)),
      )

  pub row_on : RowsFilled first (s + 1) from to n before after
  row_on = record { long = row.long ∙ inv.long; holds = λ k. row.holds k ∙ go k (eqb (k / 64) s) refl }

-- ---- the rule

pub rule_set : {rule : Rule} {senders receivers : Span} {before after : List ℕ}
    → Spans rule.sender senders
    → Spans rule.receiver receivers
    → RowsFilled senders.from senders.to receivers.from receivers.to rule.latency before after
    → RuleSet rule before after
unfolding rows_filled
rule_set a b f =
    record {
      long = f.long;
      holds = λ k h. f.holds k ∙ rw (← a.tells (k / 64) (omega arith), ← b.tells (k % 64) (omega arith));
    }
