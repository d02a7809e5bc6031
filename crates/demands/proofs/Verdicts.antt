-- "Verdict 3 exactly if no message matched; 2 exactly if some time moved; else 1."
use Prim.Native.Nat.{ℕ, zero, suc}
use native.Mathlib.Omega.{arith}
use mathlib.Core.Path.{◌≡◌, refl}
use mathlib.Core.Logic.{◌↔◌}
use mathlib.Core.Bool.{Bool, true, false}
use Rattle.paper.specs.Answer.{verdict_of}
use Rattle.demands.proofs.Tests.{Tells, untold}

-- v is the verdict on m matched messages, where P says that some time moved
pub record Verdict (v m : ℕ) (P : Type 0) : Type 0 where
  pub nothing : (v ≡ 3) ↔ (m ≡ 0)
  pub moves : (v ≡ 2) ↔ P
  pub consistent : (v ≡ 1) ↔ ((¬ (m ≡ 0)) × (¬ P))

pub verdicts : (m : ℕ) (b : Bool) {P : Type 0} → Tells b P → (m ≡ 0 → ¬ P) → Verdict (verdict_of m b) m P
unfolding verdict_of
verdicts zero b tells still =
    record {
      nothing = (λ e. refl, λ e. refl);
      moves = (λ e. absurd (omega arith), λ p. absurd (still refl p));
      consistent = (λ e. absurd (omega arith), λ p. absurd (p.0 refl));
    }
verdicts (suc m) true tells still =
    record {
      nothing = (λ e. absurd (omega arith), λ e. absurd (omega arith));
      moves = (λ e. tells.holds refl, λ p. refl);
      consistent = (λ e. absurd (omega arith), λ p. absurd (p.1 (tells.holds refl)));
    }
verdicts (suc m) false tells still =
    record {
      nothing = (λ e. absurd (omega arith), λ e. absurd (omega arith));
      moves = (λ e. absurd (omega arith), λ p. absurd (untold tells refl p));
      consistent = (λ e. (λ z. omega arith, untold tells refl), λ p. refl);
    }
