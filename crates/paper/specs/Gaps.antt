-- The ninth change request: "The caller gives a share from 0 to 1,000; a record must now lie after its predecessor by at least that many
-- thousandths of their original gap, rounded down."
use Rattle.std.specs.Prelude.{ℕ, suc, ◌+◌, ◌-◌, ◌*◌, ◌/◌, ℤ, pos, negsuc}

-- how far a time lies behind an earlier one, 0 where it does not
abbrev pub apart : ℤ → ℤ → ℕ
apart (pos m) (pos n) = n - m
apart (pos m) (negsuc n) = 0
apart (negsuc m) (pos n) = n + suc m
apart (negsuc m) (negsuc n) = m - n

-- of the gap between a record and the one before it on its processor, by their original times
unfoldable pub gap_of : (share : ℕ) (before own : ℤ) → ℕ
gap_of share before own = share * apart before own / 1000
