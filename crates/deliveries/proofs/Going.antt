-- The messages one after the other, in file order of receives.
use Prim.Native.Nat.{ℕ, ◌+◌, ◌*◌, ◌≤◌, ◌<◌}
use mathlib.Core.Path.{◌≡◌, refl, sym}
use mathlib.Core.List.{List, [], ◌∷◌, ◌++◌, append_assoc}
use native.Mathlib.Numerals.{add-one}
use native.Mathlib.Omega.{arith}
use lib.ListN.{length}
use lib.IntN.{ℤ}
use Rattle.paper.specs.Messages.{message_at, messages_to}
use Rattle.paper.specs.declared.Entry.{Entry}
use Rattle.paper.specs.declared.Pair.{Pair}
use Rattle.mail.specs.Mail.{send_in}
use Rattle.report.specs.Put.{Short}
use Rattle.lines.proofs.Adding.{nothing_put, one_more}
use Rattle.deliveries.specs.Deliveries.{line_of, lines_of, pairs_in}

lines_append : (es : List Entry) (x : ℕ → ℤ) (a b : List Pair) → lines_of es x (a ++ b) ≡ lines_of es x a ++ lines_of es x b
unfolding lines_of
lines_append es x [] b = refl
lines_append es x (p ∷ a) b = rw (lines_append es x a b) (sym (append_assoc (line_of es x p) (lines_of es x a) (lines_of es x b)))

-- the invariant: the messages that the first i records receive stand in the room
pub record Going (es : List Entry) (x : ℕ → ℤ) (sends room₀ room : List ℕ) (at i : ℕ) : Type 0 where
  pub put : Short (256 * i) room₀ 0 (lines_of es x (messages_to (send_in sends) i)) at room
  pub inside : i ≤ length sends

pub begins : (es : List Entry) (x : ℕ → ℤ) (sends room : List ℕ) → Going es x sends room room 0 0
unfolding messages_to lines_of
begins es x sends room = record { put = nothing_put 0 room 0 (omega arith); inside = omega arith }

module _ {es : List Entry} {x : ℕ → ℤ} {sends room₀ room : List ℕ} {at i : ℕ} (g : Going es x sends room₀ room at i) where
  pub goes_on_lem : {end : ℕ} {after : List ℕ} → i < length sends
      → Short 256 room at (lines_of es x (message_at i (send_in sends i))) end after → Going es x sends room₀ after end (i + 1)
  unfolding messages_to
  goes_on_lem h p =
      record {
        put =
            rw (add-one i, lines_append es x (messages_to (send_in sends) i) (message_at i (send_in sends i)))
            (rw (add-one i) at (one_more i g.put p));
        inside = omega arith;
      }

  pub all_put : length sends ≤ i → Short (256 * length sends) room₀ 0 (lines_of es x (pairs_in sends)) at room
  unfolding pairs_in
  all_put h = let e : i ≡ length sends = omega (arith, g.inside, h) in rw (← e) g.put
