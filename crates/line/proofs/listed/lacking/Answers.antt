use mir.Facts.{to_z-of_z}
use mir.Syntax.{w64}
use mir.Val.{SFits}
use borrow.Author.Rules.{rules}
use Rattle.line.proofs.Parts.{lacks_length, lacks_peer, lacks_descriptor, lacks_data}
use Rattle.line.proofs.listed.lacking.Goals as goal

pub returns-then-h-eq3 : goal.returns-then-h-eq3
returns-then-h-eq3 c = lacks_descriptor _ _ c.in-Others.is c.if-h-eq3.true

pub returns-then-length-lt0 : goal.returns-then-length-lt0
returns-then-length-lt0 c =
    let fits : SFits w64 c.in-Three.length = search rules in
    lacks_length _ _ (to_z-of_z fits) c.in-Three.is c.if-length-lt0.true

pub returns-else-length-lt0 : goal.returns-else-length-lt0
returns-else-length-lt0 c =
    let fits : SFits w64 c.in-Three.length = search rules in
    lacks_peer _ _ (to_z-of_z fits) c.in-Three.is c.if-length-lt0.false

pub returns-else-h-eq3 : goal.returns-else-h-eq3
returns-else-h-eq3 c = lacks_data _ _ c.in-Others.is c.if-h-eq3.false
