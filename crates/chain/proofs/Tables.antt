-- The tables that the code makes are those of the definition's steps.
use Rattle.std.specs.Prelude.{Some, None}
use Prim.Native.Nat.{ℕ, ◌≤◌, ◌<◌}
use native.Mathlib.Omega.{arith}
use native.Mathlib.Decide.{dec_lt}
use mathlib.Core.Path.{◌≡◌, refl, sym, ap, ◌∙◌}
use mathlib.Core.Logic.{◌↔◌}
use mathlib.Core.Bool.{Bool, true, false, cond, false≢true}
use mathlib.Core.List.{List}
use borrow.Author.Tests.{lt-ltb, le-ltb}
use lib.ListN.{length, get_or}
use lib.IntN.{ℤ, pos, ◌+ℤ◌}
use Rattle.paper.specs.Clock.{Waits, time_at}
use Rattle.paper.specs.Chain.{exactly, steps_of}
use Rattle.paper.specs.Tests.{eq_z}
use Rattle.engine.specs.Promise.{place, waits_of}
use Rattle.engine.proofs.Waiting.{place_at, place_none}
use Rattle.rounds.specs.Compare.{First}
use Rattle.steps.specs.Tables.{exact_at, end_rank, exact_table, end_ranks}
use Rattle.steps.proofs.Exact.{exact_long, exact_at_lem, end_long, end_at}
use Rattle.ranks.specs.Ranked.{at}
use Rattle.chain.specs.Linked.{Linked}

-- ---- one record

module _ (times : List ℤ) where
  abbrev n : ℕ
  n = length times

  abbrev x : ℕ → ℤ
  x = time_at times

  exact_place : (wait i j : ℕ) → place n (exact_at times wait n i j) ≡ exactly x (x i) wait (place n j)
  unfolding exact_at exactly
  exact_place wait i j = by_place (dec_lt j n)
    where
      kept : (b : Bool) → j < n → place n (cond b j n) ≡ cond b (Some j) None
      kept true l = place_at l
      kept false l = place_none {j = n} {n = n} (omega arith)

      by_place : Dec (j < n) → place n (exact_at times wait n i j) ≡ exactly x (x i) wait (place n j)
      by_place (yes l) = rw (place_at l, lt-ltb j n l) (kept (eq_z (x i) (x j +ℤ pos wait)) l)
      by_place (no l) =
          let past : n ≤ j = omega arith in
          rw (place_none past, le-ltb j n past) (place_none {j = n} {n = n} (omega arith))

  -- ---- all of them

  -- a table's steps, where the waits for them are kept exactly
  exact_steps : (waits table : List ℕ) → length table ≡ n → (i : ℕ) → i < n
      → place n (at (exact_table times waits n table) i) ≡ exactly x (x i) (get_or waits i 0) (place n (at table i))
  exact_steps waits table size i i< = ap (place n) (exact_at_lem times waits n table i (omega (arith, i<, size))) ∙ exact_place (get_or waits i 0) i (at table i)

  end_told : (time original : ℤ) → 0 < n → (eq_z time original ≡ true) ↔ (end_rank time original n ≡ 0)
  unfolding end_rank
  end_told time original some-records = go (eq_z time original)
    where
      go : (b : Bool) → (b ≡ true) ↔ (cond b 0 n ≡ 0)
      go true = (λ e. refl, λ e. refl)
      go false = (λ e. absurd (false≢true e), λ e. absurd (omega arith))

  module _ (originals : List ℤ) (before gap send latency ranks : List ℕ) (v : Waits) (agree : First (waits_of originals before gap send latency) v) where
    pub linked : length originals ≡ n → length before ≡ n → length send ≡ n → length ranks ≡ n
        → Linked (steps_of v x) n (exact_table times gap n before) (exact_table times latency n send) (end_ranks originals times n ranks)
    unfolding steps_of waits_of
    linked size₀ size₁ size₂ size₃ =
        let inside : (i : ℕ) → i < n → i < length originals = λ i i<. omega (arith, i<, size₀) in
        record {
          all_first = exact_long times gap n before ∙ size₁;
          all_second = exact_long times latency n send ∙ size₂;
          all_ends = end_long originals times n ranks ∙ size₃;
          end = λ i i<. rw (end_at originals times n ranks i (omega (arith, i<, size₃)), ← agree.original i (inside i i<))
              (end_told (x i) (time_at originals i) (omega arith));
          processor = λ i i<.
              let step = exact_steps gap before size₁ i i< in
              rw (← agree.gap i (inside i i<), ← agree.before i (inside i i<), size₀) (sym step);
          send = λ i i<.
              let step = exact_steps latency send size₂ i i< in
              rw (← agree.latency i (inside i i<), ← agree.send i (inside i i<), size₀) (sym step);
        }
