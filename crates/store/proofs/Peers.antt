-- The peer of a stored receive is one of the sixty-four.
use Prim.Native.Nat.{ℕ, ◌*◌, ◌/◌, ◌%◌, ◌<◌}
use mathlib.Core.Path.{◌≡◌}
use mathlib.Core.List.{List}
use mathlib.Core.Bool.{Bool, true, false, cond}
use native.Mathlib.Omega.{arith}
use lib.ListN.{drop}
use lib.Dec.{ltb, eqb}
use Rattle.paper.specs.Matching.{no_entry}
use Rattle.paper.specs.declared.Message.{Message}
use Rattle.paper.specs.declared.Role.TheVariants.{Neither, Send, Receive}
use Rattle.store.specs.Layout.{width, capacity, number_at, role_from, message_from, entry_of, entry_from}

module _ (m : Message) where
  one_message : (a b : Bool) (x : Message) → cond a (Send x) (cond b (Receive x) Neither) ≡ Receive m → x.peer ≡ m.peer
  one_message true b x e = cc
  one_message false true x e = cc
  one_message false false x e = cc

  read : (k : List ℕ) → (entry_of k).body.role ≡ Receive m → m.peer < 64
  unfolding entry_of role_from message_from
  read k e = omega (arith, one_message (eqb (number_at k 4 / 64 % 4) 1) (eqb (number_at k 4 / 64 % 4) 2) (message_from k) e)

  pub peer_low : (l : List ℕ) (i : ℕ) → (entry_from l i).body.role ≡ Receive m → m.peer < 64
  unfolding entry_from
  peer_low l i = go (ltb i (capacity l))
    where
      go : (t : Bool) → (cond t (entry_of (drop (width * i) l)) no_entry).body.role ≡ Receive m → m.peer < 64
      go true e = read (drop (width * i) l) e
      go false e = absurd (let z : ◌≡◌ {A = ℕ} 0 1 = cc in omega arith)
