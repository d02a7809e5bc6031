-- Every receive has one send of its own: no send serves two receives.
use Rattle.std.specs.Prelude.{Some}
use Prim.Native.Nat.{ℕ, ◌≤◌, ◌<◌}
use native.Mathlib.Omega.{arith}
use native.Mathlib.Decide.{dec_lt}
use mathlib.Core.Path.{◌≡◌, sym, ap, ◌∙◌}
use mathlib.Core.Bool.{true}
use mathlib.Core.List.{List}
use lib.ListN.{length, take}
use Rattle.paper.specs.Matching.{Key, count_if, is_receive_of, receives_under, entry_at, send_of}
use Rattle.paper.specs.declared.Message.{Message}
use Rattle.paper.specs.declared.Role.{Role}
use Rattle.paper.specs.declared.Role.TheVariants.{Send, Receive}
use Rattle.paper.specs.declared.Entry.{Entry}
use Rattle.matching.proofs.Count.{count_take, count_less}
use Rattle.matching.proofs.Places.{place_answers}
use Rattle.matching.proofs.Keys.{send_key, receive_key, key_same, sends_under_lem}
use Rattle.matching.proofs.Belong.{processor_at, role_at, is_receive}

-- a receive is a receive under its own key
pub receives_own : (processor : ℕ) (m : Message) (r : Role) → r ≡ Receive m
    → receives_under (receive_key processor m) processor r ≡ true
unfolding receives_under
receives_own processor m r e = rw e (key_same (receive_key processor m))

module _ (es : List Entry) where
  -- how many receives under the key stand before place i
  abbrev pub rank : Key → ℕ → ℕ
  rank key i = count_if (is_receive_of key) (take i es)

  pub rank_grows : (key : Key) (i k : ℕ) → i < k → k ≤ length es → is_receive_of key (entry_at es i) ≡ true → rank key i < rank key k
  rank_grows key i k h l e =
      rw (count_take (is_receive_of key) es i (omega arith), count_take (is_receive_of key) es k l)
      (count_less (λ j. is_receive_of key (entry_at es j)) i k h e)

  -- the key of the receives that one send could serve
  one_key : (j : ℕ) (a b : Key) (s t : Message) → role_at es j ≡ Send s → role_at es j ≡ Send t → a ≡ send_key (processor_at es j) s
      → b ≡ send_key (processor_at es j) t → a ≡ b
  one_key j a b s t rs rt ea eb = let e : s ≡ t = cc in ea ∙ ap (send_key (processor_at es j)) e ∙ sym eb

  later_not : (i k j : ℕ) → i < k → k ≤ length es → send_of es i ≡ Some j → send_of es k ≡ Some j → ⊥
  unfolding send_of
  later_not i k j h l ei ek =
      let (m, ri, pi) = is_receive es i (processor_at es i) (role_at es i) j ei in
      let (n, rk, pk) = is_receive es k (processor_at es k) (role_at es k) j ek in
      let a = receive_key (processor_at es i) m in
      let b = receive_key (processor_at es k) n in
      let fi = (place_answers a (rank a i) es).sound j pi in
      let fk = (place_answers b (rank b k) es).sound j pk in
      let (s, rs, ka) = sends_under_lem a (processor_at es j) (role_at es j) fi.passes in
      let (t, rt, kb) = sends_under_lem b (processor_at es j) (role_at es j) fk.passes in
      let same : a ≡ b = one_key j a b s t rs rt ka kb in
      let grows = rank_grows a i k h l (receives_own (processor_at es i) m (role_at es i) ri) in
      omega (arith, fi.rank, rw (← same) at fk.rank)

  pub own_send : (i k j : ℕ) → i < length es → k < length es → send_of es i ≡ Some j → send_of es k ≡ Some j → i ≡ k
  own_send i k j hi hk ei ek = go (dec_lt i k) (dec_lt k i)
    where
      go : Dec (i < k) → Dec (k < i) → i ≡ k
      go (yes l) d = absurd (later_not i k j l (omega arith) ei ek)
      go (no l) (yes g) = absurd (later_not k i j g (omega arith) ek ei)
      go (no l) (no g) = omega arith
