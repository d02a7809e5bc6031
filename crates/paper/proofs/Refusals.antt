-- A refusal is one by its fault and its site.
use Rattle.std.specs.Prelude.{◌≡◌, Result, Ok, Err}
use mathlib.Core.Path.{ap}
use Rattle.paper.specs.Columns.{refused_at}
use Rattle.paper.specs.declared.Fault.{Fault}
use Rattle.paper.specs.declared.Site.{Site}
use Rattle.paper.specs.declared.Refusal.{Refusal}

abbrev refusal_or : Refusal → Result Unit Refusal → Refusal
refusal_or r (Ok tt) = r
refusal_or r (Err s) = s

pub same_refused : {r s : Refusal} → ◌≡◌ {A = Result Unit Refusal} (Err r) (Err s) → r ≡ s
same_refused {r} e = ap (refusal_or r) e

module _ {f g : Fault} {s t : Site} (e : refused_at f s ≡ refused_at g t) where
  pub same_fault : f ≡ g
  same_fault = ap (λ (r : Refusal). r.fault) (same_refused e)

  pub same_site : s ≡ t
  same_site = ap (λ (r : Refusal). r.site) (same_refused e)
