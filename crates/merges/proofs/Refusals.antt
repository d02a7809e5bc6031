-- The number and the trace that a merging gets back tell which row it is in, or that the traces are joined; a refusal leaves the room.
use Prim.Native.Nat.{ℕ}
use mathlib.Core.Path.{◌≡◌, refl, sym, ap, ◌∙◌}
use mathlib.Core.Logic.{inl, inr, ◌↔◌}
use mathlib.Core.List.{[], ◌∷◌}
use lib.ListN.{get_or}
use Rattle.paper.specs.Numbers.{number_of}
use Rattle.paper.specs.Columns.{in_line}
use Rattle.paper.specs.Merging.{Merging, Mergence, unmerged, joined, join, which_of, merged_of, MergeOutcome, merge}
use Rattle.paper.specs.declared.Fault.{Fault}
use Rattle.paper.specs.declared.Site.{Site}
use Rattle.paper.specs.declared.Which.{Which}
use Rattle.paper.specs.declared.Which.TheVariants.{Neither, First, Second}
use Rattle.demands.proofs.Numbers.{one_fault, some_number}
use Rattle.merges.specs.Parts.{number, which, site, written, Joins}
use Rattle.merges.specs.Table.{MergeWhen}
use Rattle.merges.proofs.Steps.{join_joined}
use Rattle.merges.proofs.Rows.{Answered, answered, when_unmerged}

-- ---- each trace has a number of its own

unfoldable trace_of : ℕ → Which
trace_of n = get_or (Neither ∷ First ∷ Second ∷ []) n Neither

trace_back : (w : Which) → trace_of (which_of w) ≡ w
unfolding trace_of which_of
trace_back Neither = refl
trace_back First = refl
trace_back Second = refl

one_trace : (a b : Which) → which_of a ≡ which_of b → a ≡ b
one_trace a b e = sym (trace_back a) ∙ ap trace_of e ∙ trace_back b

module _ (i : Merging) where
  -- ---- what is told of it

  pub merge_is : (m : Mergence) → join i ≡ m → merge i ≡ record { answer = merged_of m.joint; room = m.room }
  unfolding merge
  merge_is m e = rw e

  module _ {fault : Fault} {w : Which} {s : Site} (when : MergeWhen i fault w s) where
    refused : merge i ≡ record { answer = merged_of (unmerged i fault w s).joint; room = i.room }
    unfolding unmerged
    refused = merge_is (unmerged i fault w s) (when_unmerged i when)

    pub refused_number : number i ≡ number_of fault
    unfolding merged_of unmerged
    refused_number = ap (λ (o : MergeOutcome). o.answer.number) refused

    refused_trace : which i ≡ which_of w
    unfolding merged_of unmerged
    refused_trace = ap (λ (o : MergeOutcome). o.answer.which) refused

    pub refused_site : site i ≡ s
    unfolding merged_of unmerged
    refused_site = ap (λ (o : MergeOutcome). in_line o.answer.line o.answer.column) refused

    refused_written : written i ≡ 0
    unfolding merged_of unmerged
    refused_written = ap (λ (o : MergeOutcome). o.answer.written) refused

  pub joined_number : Joins i → number i ≡ 0
  unfolding merged_of joined
  joined_number j = ap (λ (o : MergeOutcome). o.answer.number) (merge_is _ (join_joined i j.both j.apart j.fits))

  pub joined_column : Joins i → (site i).column ≡ 0
  unfolding merged_of joined
  joined_column j = ap (λ (o : MergeOutcome). o.answer.column) (merge_is _ (join_joined i j.both j.apart j.fits))

  -- ---- and back

  pub joined_exactly : (number i ≡ 0) ↔ Joins i
  joined_exactly = (λ e. go e (answered i), joined_number)
    where
      go : number i ≡ 0 → Answered i → Joins i
      go e (inl j) = j
      go e (inr (fault, w, s, when)) = absurd (some_number fault (sym (refused_number when) ∙ e))

  pub refused_exactly : (fault : Fault) (w : Which) (s : Site)
      → ((number i ≡ number_of fault) × (which i ≡ which_of w) × (site i ≡ s)) ↔ MergeWhen i fault w s
  refused_exactly fault w s =
      (λ (e, of, there). go e of there (answered i), λ when. (refused_number when, refused_trace when, refused_site when))
    where
      go : number i ≡ number_of fault → which i ≡ which_of w → site i ≡ s → Answered i → MergeWhen i fault w s
      go e of there (inl j) = absurd (some_number fault (sym e ∙ joined_number j))
      go e of there (inr (f, v, t, when)) =
          let same_fault : f ≡ fault = one_fault f fault (sym (refused_number when) ∙ e) in
          let same_trace : v ≡ w = one_trace v w (sym (refused_trace when) ∙ of) in
          let same_site : t ≡ s = sym (refused_site when) ∙ there in
          rw (same_fault, same_trace, same_site) at when

  pub refusal_keeps : ¬ (number i ≡ 0) → (written i ≡ 0) × ((merge i).room ≡ i.room)
  refusal_keeps h = go (answered i)
    where
      go : Answered i → (written i ≡ 0) × ((merge i).room ≡ i.room)
      go (inl j) = absurd (h (joined_number j))
      go (inr (fault, w, s, when)) = (refused_written when, ap (λ (o : MergeOutcome). o.room) (refused when))
