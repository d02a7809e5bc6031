-- The search for one send: the turns of the two walks.
use Prim.Native.Nat.{ℕ, ◌+◌, ◌-◌, ◌<◌}
use native.Mathlib.Omega.{arith}
use mathlib.Core.Path.{◌≡◌}
use mathlib.Core.Bool.{false}
use mathlib.Core.List.{List}
use lib.ListN.{length, get_or}
use Rattle.side.specs.declared.Key.{Key}
use Rattle.side.specs.Sides.{bucket_of, send_under, receive_under}
use Rattle.side.proofs.Buckets.{no_send_in, no_receive_in}
use Rattle.chains.specs.Chains.{First, send_in, receive_in, Forward, Backward}
use Rattle.chains.proofs.Walks.{Going, goes_on_lem, Going-back, back_less, back_turns}

-- ---- forwards

abbrev pub Forwards : List ℕ → List ℕ → Key → ℕ → ℕ → Type 0
Forwards l link key at s = Going (send_under l key) (send_in l (bucket_of key)) (length link) at s

module _ (l : List ℕ) (link : List ℕ) (key : Key) (at : ℕ) (h : Forward l link (bucket_of key) at) where
  module _ (s : ℕ) (g : Forwards l link key at s) (m : s < length link) where
    linked_next : First (send_in l (bucket_of key)) (length link) (s + 1) (get_or link s 0)
    linked_next = h.linked s (bucket_of key) (omega arith) m (g.on m)

    pub forward_turns : send_under l key s ≡ false → Forwards l link key at (get_or link s 0)
    forward_turns e = goes_on_lem _ _ _ _ s g (get_or link s 0) (λ k. no_send_in l key k) e linked_next

-- ---- backwards

abbrev pub Backwards : List ℕ → Key → ℕ → ℕ → Type 0
Backwards l key from s = Going-back (receive_under l key) (receive_in l (bucket_of key)) from s

module _ (l : List ℕ) (link : List ℕ) (key : Key) (from : ℕ) (h : Backward l link (bucket_of key) from) where
  module _ (s : ℕ) (g : Backwards l key from s) (m : 0 < s) where
    pub backward_less : get_or link (s - 1) 0 < s
    backward_less = back_less _ _ link from (λ j. h.backed j (bucket_of key)) s g m

    pub backward_turns : receive_under l key (s - 1) ≡ false → Backwards l key from (get_or link (s - 1) 0)
    backward_turns = back_turns _ _ link from (λ j. h.backed j (bucket_of key)) s g m (λ k. no_receive_in l key k)
