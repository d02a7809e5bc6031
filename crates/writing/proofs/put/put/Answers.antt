-- The part of the room from `at` on, copied into.
use mathlib.Core.Path.{refl}
use Rattle.writing.proofs.Puts.{word_put}
use Rattle.writing.proofs.put.put.Goals as goal

pub returns : goal.returns
returns c = word_put c.args.room.now c.args.word.now c.args.at _ c.requires refl c.copy_from_slice.ensures.after
