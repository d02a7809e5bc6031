-- The statements of `report`, `say`, `tell` and `reply`: each leaves one outcome, and the code's ways out meet it.
use Prim.Native.Nat.{ℕ}
use mathlib.Core.Path.{◌≡◌, sym, ◌∙◌}
use mathlib.Core.List.{List}
use borrow.Author.Tests.{eq-eqb, ne_eqb}
use Rattle.paper.specs.declared.Answer.{Answer}
use Rattle.report.specs.Put.{Put}
use Rattle.report.specs.Report.{report_of, accepted_shown, refused_shown, Reported}
use Rattle.report.specs.Said.{said_shown, Spoken}
use Rattle.report.specs.Told.{told_shown, ToldInto}
use Rattle.report.specs.Replied.{replied_shown, RepliedInto}
use Rattle.report.specs.declared.Said.{Said}
use Rattle.report.specs.declared.Said.TheVariants.{Answered}
use Rattle.report.specs.declared.Told.{Told}
use Rattle.report.specs.declared.Replied.{Replied}
use Rattle.report.proofs.Puts.{counted}

pub one_put : {room text : List ℕ} {at r q : ℕ} {a b : List ℕ} → Put room at text r a → Put room at text q b → (r ≡ q) × (a ≡ b)
one_put x y =
    let e = x.ends ∙ sym y.ends in
    (e, x.holds ∙ rw e (sym y.holds))

pub one_report : {answer : Answer} {room : List ℕ} {r q : ℕ} {a b : List ℕ} → Reported answer room r a → Reported answer room q b → (r ≡ q) × (a ≡ b)
one_report x y = one_put x.put y.put

pub one_spoken : {said : Said} {room : List ℕ} {r q : ℕ} {a b : List ℕ} → Spoken said room r a → Spoken said room q b → (r ≡ q) × (a ≡ b)
one_spoken x y = one_put x.put y.put

pub one_told : {told : Told} {room : List ℕ} {r q : ℕ} {a b : List ℕ} → ToldInto told room r a → ToldInto told room q b → (r ≡ q) × (a ≡ b)
one_told x y = one_put x.put y.put

pub one_replied : {replied : Replied} {room : List ℕ} {r q : ℕ} {a b : List ℕ} → RepliedInto replied room r a → RepliedInto replied room q b → (r ≡ q) × (a ≡ b)
one_replied x y = one_put x.put y.put

module _ {answer : Answer} {room : List ℕ} {end : ℕ} {after : List ℕ} where
  pub refused : (answer.number ≡ 0 → ⊥) → Put room 0 (refused_shown answer.number answer.line answer.column) end after → Reported answer room end after
  unfolding report_of
  refused h p = record { put = rw (ne_eqb answer.number 0 h) p; counts = counted p }

  pub accepted : answer.number ≡ 0 → Put room 0 (accepted_shown answer) end after → Reported answer room end after
  unfolding report_of
  accepted h p = record { put = rw (eq-eqb answer.number 0 h) p; counts = counted p }

-- what `say` puts there: an answer's report, or a line
module _ {room : List ℕ} {end : ℕ} {after : List ℕ} where
  pub answered : {said : Said} {answer : Answer} → said ≡ Answered answer → Reported answer room end after → Spoken said room end after
  unfolding said_shown
  answered e p = record { put = rw e p.put; counts = p.counts }

  pub line : {said : Said} {word : List ℕ} → word ≡ said_shown said → Put room 0 word end after → Spoken said room end after
  line e p = record { put = rw e at p; counts = counted p }

-- what `tell` puts there: a line of its own, or one that `say` has too
module _ {told : Told} {room : List ℕ} {end : ℕ} {after : List ℕ} where
  pub tells : {word : List ℕ} → word ≡ told_shown told → Put room 0 word end after → ToldInto told room end after
  tells e p = record { put = rw e at p; counts = counted p }

  pub in_common : {said : Said} → said_shown said ≡ told_shown told → Spoken said room end after → ToldInto told room end after
  in_common e p = record { put = rw e at p.put; counts = p.counts }

-- what `reply` puts there, likewise
module _ {replied : Replied} {room : List ℕ} {end : ℕ} {after : List ℕ} where
  pub replies : {word : List ℕ} → word ≡ replied_shown replied → Put room 0 word end after → RepliedInto replied room end after
  replies e p = record { put = rw e at p; counts = counted p }

  pub shared : {said : Said} → said_shown said ≡ replied_shown replied → Spoken said room end after → RepliedInto replied room end after
  shared e p = record { put = rw e at p.put; counts = p.counts }
