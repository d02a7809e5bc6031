use borrow.Author.Rules.{rules}
use Rattle.paper.specs.Text.{bytes_of}
use Rattle.deliveries.proofs.Deliveries.{fit, none_said, lines_said}
use Rattle.std.proofs.lemmas.Bool.{not_from_true}
use Rattle.deliveries.proofs.put_messages.Goals as goal

pub put_lines-n-requires : goal.put_lines-n-requires
put_lines-n-requires c = let s = c.args in
    let f = fit s.store.now s.sends.now s.times.now s.room.now c.fits.ensures (not_from_true _ c.if-not-fits.false) in
    (f.all, f.wide)

pub returns-then-n-eq0 : goal.returns-then-n-eq0
unfolding bytes_of
returns-then-n-eq0 c = let s = c.args in
    none_said s.store.now s.sends.now s.times.now s.room.now c.fits.ensures (not_from_true _ c.if-not-fits.false)
    c.put_lines-n.ensures
    c.if-n-eq0.true
    c.add.ensures

pub returns : goal.returns
returns c = let s = c.args in
    lines_said s.store.now s.sends.now s.times.now s.room.now c.fits.ensures (not_from_true _ c.if-not-fits.false)
    c.put_lines-n.ensures (search rules)
