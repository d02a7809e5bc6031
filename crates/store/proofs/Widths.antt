-- A place read from a slice of 32 bits is a place of 64.
use Prim.Native.Nat.{ℕ}
use native.Mathlib.Omega.{arith}
use mir.Syntax.{w32, w64}
use mir.Val.{Fits}

pub widens : {n : ℕ} → Fits w32 n → Fits w64 n
widens h = omega arith
