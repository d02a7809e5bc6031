-- The statement of `solve` leaves one answer, and where the times are found one thing that the places and the times hold.
use Rattle.std.specs.Prelude.{Result, Ok, Err}
use Prim.Native.Nat.{ℕ}
use mathlib.Core.Path.{◌≡◌, refl, sym, ◌∙◌}
use mathlib.Core.List.{List}
use mathlib.Core.Bool.{Bool, true, false}
use lib.IntN.{ℤ}
use Rattle.paper.specs.Clock.{settled}
use Rattle.paper.specs.declared.Entry.{Entry}
use Rattle.solve.specs.Outcome.{Keepable, solved_by, SolvedInto}
use Rattle.solve.specs.declared.Unsolved.{Unsolved}

module _ (share : ℕ) (table : List ℕ) (es : List Entry) (a b : List ℕ) (s t : List ℤ) where
  one_answer : (r q : Result (ℕ × ℕ × ℕ) Unsolved) → solved_by share table es r a s → solved_by share table es q b t → r ≡ q
  unfolding solved_by
  one_answer (Ok (m, u, k)) (Ok (n, v, l)) x y =
      let e : settled k s ≡ settled l t = sym x.settles ∙ y.settles in
      let rounds : k ≡ l = cc in
      rw (x.many ∙ sym y.many, x.left ∙ sym y.left, rounds)
  one_answer (Ok (m, u, k)) (Err (Unsolved.Refused refusal)) x y = let e = sym x.matches ∙ y in cc
  one_answer (Ok (m, u, k)) (Err Unsolved.Impossible) x y = let e = sym x.settles ∙ y.1 in cc
  one_answer (Err (Unsolved.Refused refusal)) (Ok (m, u, k)) x y = let e = sym y.matches ∙ x in cc
  one_answer (Err (Unsolved.Refused refusal)) (Err (Unsolved.Refused other)) x y = let e = sym x ∙ y in cc
  one_answer (Err (Unsolved.Refused refusal)) (Err Unsolved.Impossible) x y = let e = sym x ∙ y.0 in cc
  one_answer (Err Unsolved.Impossible) (Ok (m, u, k)) x y = let e = sym y.settles ∙ x.1 in cc
  one_answer (Err Unsolved.Impossible) (Err (Unsolved.Refused refusal)) x y = let e = sym y ∙ x.0 in cc
  one_answer (Err Unsolved.Impossible) (Err Unsolved.Impossible) x y = refl
  one_answer (Err Unsolved.Misfit) q x y = absurd x
  one_answer (Ok (m, u, k)) (Err Unsolved.Misfit) x y = absurd y
  one_answer (Err (Unsolved.Refused refusal)) (Err Unsolved.Misfit) x y = absurd y
  one_answer (Err Unsolved.Impossible) (Err Unsolved.Misfit) x y = absurd y

  pub one_held : (m u k : ℕ) → solved_by share table es (Ok (m, u, k)) a s → solved_by share table es (Ok (m, u, k)) b t → (a ≡ b) × (s ≡ t)
  unfolding solved_by
  one_held m u k x y =
      let e : settled k s ≡ settled k t = sym x.settles ∙ y.settles in
      (x.places ∙ sym y.places, cc)

  pub one_solution : (fits : Bool) (r q : Result (ℕ × ℕ × ℕ) Unsolved) → Keepable share es → SolvedInto fits share table es r a s → SolvedInto fits share table es q b t → r ≡ q
  one_solution true r q keep x y = one_answer r q (x.answers refl keep) (y.answers refl keep)
  one_solution false r q keep x y = x.misfits refl ∙ sym (y.misfits refl)
