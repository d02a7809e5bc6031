-- The part of the room from `at` on, copied into.
use mathlib.Core.Path.{◌≡◌, refl, ◌∙◌}
use native.Mathlib.Omega.{arith}
use lib.ListN.{length}
use lib.Seq.{take-length}
use Rattle.std.proofs.lemmas.List.Edits.{sets-eq}
use Rattle.std.proofs.lemmas.Slice.{put_mid-paste}
use Rattle.merging.proofs.weave.put.Goals as goal

pub returns : goal.returns
returns c =
    let e : c.copy_from_slice.new.self ≡ c.args.word.now = c.copy_from_slice.ensures.after in
    put_mid-paste _ _ _ _ c.args.word.now (length c.args.word.now) e (omega arith) refl
    ∙ rw (sets-eq c.args.word.now c.args.room.now c.args.at c.requires, take-length)
