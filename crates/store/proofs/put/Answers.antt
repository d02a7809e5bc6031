use mathlib.Core.Path.{◌≡◌, refl, ap}
use native.Mathlib.Omega.{arith}
use lib.ListN.{length}
use Rattle.std.proofs.lemmas.Slice.{put_mid-paste}
use Rattle.store.specs.Layout.{width, capacity, numbers_of}
use Rattle.store.proofs.Made.{no_room, is_put}
use Rattle.store.proofs.put.Goals as goal

pub returns-then-store-i : goal.returns-then-store-i
unfolding capacity width
returns-then-store-i c = no_room _ _ _ _ c.if-store-i.true

pub returns : goal.returns
unfolding capacity width numbers_of
returns c =
    let r : c.copy_from_slice.new.self ≡ c.numbers_of-numbers.result = c.copy_from_slice.ensures.after in
    let long : length c.numbers_of-numbers.result ≡ 10 = ap length c.numbers_of-numbers.ensures in
    is_put _ c.args.i _ _ (omega (arith, c.if-store-i.false)) c.numbers_of-numbers.ensures refl
    (put_mid-paste _ _ _ _ c.numbers_of-numbers.result width r (omega arith) (omega (arith, long)))
