-- The lines of two traces as those of one: all have their LF, they are as many lines and as many bytes, and none has an LF in it if none of
-- the two traces' has.
use Prim.Native.Nat.{◌+◌}
use native.Mathlib.Omega.{arith}
use mathlib.Core.Path.{◌≡◌}
use lib.ListN.{length, length-append}
use Rattle.paper.specs.Reading.{Lines}
use Rattle.paper.specs.Merging.{bytes_in}
use Rattle.reading.specs.Joined.{AllEnded, line_count}
use Rattle.reading.specs.Mixed.{Mixed, no_more, from_first, from_second}
use Rattle.reading.proofs.Bytes.{Clean}

pub mixed_ended : {x y z : Lines} → Mixed x y z → AllEnded z
unfolding AllEnded
mixed_ended no_more = tt
mixed_ended (from_first m) = mixed_ended m
mixed_ended (from_second m) = mixed_ended m

pub mixed_clean : {x y z : Lines} → Mixed x y z → Clean x → Clean y → Clean z
mixed_clean no_more f g = tt
mixed_clean (from_first m) f g = (f.0, mixed_clean m f.1 g)
mixed_clean (from_second m) f g = (g.0, mixed_clean m f g.1)

pub mixed_count : {x y z : Lines} → Mixed x y z → line_count z ≡ line_count x + line_count y
unfolding line_count
mixed_count no_more = omega arith
mixed_count (from_first m) = omega (arith, mixed_count m)
mixed_count (from_second m) = omega (arith, mixed_count m)

pub mixed_length : {x y z : Lines} → Mixed x y z → length (bytes_in z) ≡ length (bytes_in x) + length (bytes_in y)
unfolding bytes_in
mixed_length no_more = omega arith
mixed_length (from_first m) = simp length-append (omega (arith, mixed_length m))
mixed_length (from_second m) = simp length-append (omega (arith, mixed_length m))
