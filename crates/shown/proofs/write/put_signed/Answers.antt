-- No room before the places are counted, no room for all of it, and both parts stored.
use native.Mathlib.Omega.{arith}
use Rattle.shown.proofs.Puts.{no_room, short_signed, signed_no_room, signed_stored}
use Rattle.shown.proofs.write.put_signed.Goals as goal

pub returns-then-room-at : goal.returns-then-room-at
returns-then-room-at c = no_room _ _ _ (omega arith)

pub overflow_add-n : goal.overflow_add-n
overflow_add-n c = omega (arith, short_signed _ _ _ _ c.sign_length-sign.ensures c.places-k.ensures)

pub overflow_add-n-2 : goal.overflow_add-n-2
overflow_add-n-2 c = omega (arith, short_signed _ _ _ _ c.sign_length-sign.ensures c.places-k.ensures)

pub returns-then-room-at-2 : goal.returns-then-room-at-2
returns-then-room-at-2 c = let a = c.args in
    signed_no_room a.minus a.size _ _ c.sign_length-sign.ensures c.places-k.ensures a.room.now a.at (omega arith)

pub returns : goal.returns
returns c = let a = c.args in
    signed_stored a.minus a.size _ _ c.sign_length-sign.ensures c.places-k.ensures a.room.now a.at _ _ (omega arith) c.put_sign.ensures c.put_size.ensures
