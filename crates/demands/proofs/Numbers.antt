-- Each fault has a number of its own, and none has 0.
use Prim.Native.Nat.{ℕ}
use native.Mathlib.Omega.{arith}
use mathlib.Core.Path.{◌≡◌, refl, sym, ap, ◌∙◌}
use mathlib.Core.List.{[], ◌∷◌}
use lib.ListN.{get_or}
use Rattle.paper.specs.Numbers.{number_of}
use Rattle.paper.specs.declared.Fault.{Fault}

-- the fault with a number
unfoldable fault_of : ℕ → Fault
fault_of n =
    get_or
    (Fault.BadChoice ∷ Fault.BadChoice ∷ Fault.WrongLength ∷ Fault.HighLatency ∷ Fault.LongTrace ∷ Fault.Form ∷ Fault.Stamp
    ∷ Fault.Unlisted ∷ Fault.NotHandled ∷ Fault.Place ∷ Fault.NoMessage ∷ Fault.Backwards ∷ Fault.TooMany ∷ Fault.NoSend
    ∷ Fault.LongReceive ∷ Fault.NoTimes ∷ Fault.NoRoom ∷ Fault.OtherLevels ∷ Fault.SharedProcessor
    ∷ Fault.OtherStatistics ∷ Fault.BadChoice ∷ Fault.BadChoice ∷ Fault.NoPlace ∷ [])
    n Fault.BadChoice

back : (fault : Fault) → fault_of (number_of fault) ≡ fault
unfolding fault_of number_of
back Fault.BadChoice = refl
back Fault.WrongLength = refl
back Fault.HighLatency = refl
back Fault.LongTrace = refl
back Fault.Form = refl
back Fault.Stamp = refl
back Fault.Unlisted = refl
back Fault.NotHandled = refl
back Fault.Place = refl
back Fault.NoMessage = refl
back Fault.Backwards = refl
back Fault.TooMany = refl
back Fault.NoSend = refl
back Fault.LongReceive = refl
back Fault.NoTimes = refl
back Fault.NoRoom = refl
back Fault.OtherLevels = refl
back Fault.SharedProcessor = refl
back Fault.OtherStatistics = refl
back Fault.NoPlace = refl

pub one_fault : (a b : Fault) → number_of a ≡ number_of b → a ≡ b
one_fault a b e = sym (back a) ∙ ap fault_of e ∙ back b

pub some_number : (fault : Fault) → ¬ (number_of fault ≡ 0)
unfolding fault_of number_of
some_number fault e =
    let first : Fault.BadChoice ≡ fault = rw e at (back fault) in
    let z : ◌≡◌ {A = ℕ} 1 0 = rw (← first) at e in omega arith
