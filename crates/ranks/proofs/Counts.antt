-- From one function to the next: what the slices hold when the steps are to be gone back, and afterwards.
use Prim.Native.Nat.{ℕ}
use mathlib.Core.Path.{◌≡◌, refl, sym, ◌∙◌}
use mathlib.Core.Bool.{Bool, true, false, true≢false}
use mathlib.Core.List.{List, [], ◌∷◌}
use lib.ListN.{length}
use Rattle.ranks.specs.Ranked.{rankable, RanksOf, RankedInto}
use Rattle.ranks.specs.Inner.{Slices, Inverts, Seeded, Ready, SpreadFrom}
use Rattle.ranks.proofs.Fits.{fitted}

module _ {first second ranks : List ℕ} {ranks' queue' : List ℕ} {tail : ℕ} (size : length ranks' ≡ length ranks)
    (sown : Seeded (length ranks) ranks (length ranks) ranks' queue' tail) where
  pub ready : {queue after receive : List ℕ} → Slices (length ranks) first second ranks queue after receive → {after' receive' : List ℕ}
      → length after' ≡ length after → length receive' ≡ length receive → Inverts first after' → Inverts second receive'
      → Ready (length ranks') first second after' receive' ranks' queue' tail
  ready all size₁ size₂ inv₁ inv₂ =
      rw size
      (record {
        tables = record {
          few = all.few;
          all_first = all.all_first;
          all_second = all.all_second;
          all_after = size₁ ∙ all.all_after;
          all_receive = size₂ ∙ all.all_receive;
          all_ranks = size;
        };
        turned_first = inv₁;
        turned_second = inv₂;
        before = ranks;
        sown = sown;
      })

  pub counted : {ranks'' : List ℕ} → SpreadFrom (length ranks') first second ranks' queue' tail ranks'' → RanksOf (length ranks) first second ranks ranks''
  counted spread = (rw size at spread).from ranks sown

-- ---- by whether the slices fit

pub slices : (first second ranks queue after receive : List ℕ) {told : Bool}
    → told ≡ rankable (length ranks) (length first ∷ length second ∷ length queue ∷ length after ∷ length receive ∷ []) → told ≡ true
    → Slices (length ranks) first second ranks queue after receive
slices first second ranks queue after receive e t =
    let (few, a, b, c, d, f) = fitted (length ranks) _ _ _ _ _ (sym e ∙ t) in
    record { few = few; all_first = a; all_second = b; all_ranks = refl; all_queue = c; all_after = d; all_receive = f }

module _ {fits : Bool} {n : ℕ} {first second ranks ranks' : List ℕ} where
  pub fit : RanksOf n first second ranks ranks' → RankedInto fits n first second ranks ranks'
  fit ranked = record { counts = λ fit_is. ranked }

  pub unfit : {told : Bool} → told ≡ fits → told ≡ false → RankedInto fits n first second ranks ranks'
  unfit e t = record { counts = λ fit_is. absurd (true≢false (sym fit_is ∙ sym e ∙ t)) }
