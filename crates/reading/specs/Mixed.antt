-- The lines of two traces as those of one.
use Rattle.std.specs.Prelude.{List, ℕ}
use Rattle.paper.specs.Reading.{Lines, done, ended}

-- "Every line appears once and each trace's own order stays."
pub data Mixed : Lines → Lines → Lines → Type 0 where
  no_more : Mixed done done done
  from_first : {l : List ℕ} {x y z : Lines} → Mixed x y z → Mixed (ended l x) y (ended l z)
  from_second : {l : List ℕ} {x y z : Lines} → Mixed x y z → Mixed x (ended l y) (ended l z)
