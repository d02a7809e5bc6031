-- Row 17, of the first change request: "refuse with 17 if a processor with listed records has no such mark, or its last one differs from
-- the expected three. The smallest such processor decides; the line is that of its last listed record."
use Rattle.std.specs.Prelude.{ℕ, ◌<◌, ◌≡◌, List, length, ℤ, negsuc}
use Rattle.paper.specs.Matching.{entry_at}
use Rattle.paper.specs.Reading.{done}
use Rattle.paper.specs.Answer.{Inputs}
use Rattle.paper.specs.declared.Asked.{Asked}
use Rattle.paper.specs.declared.Data.TheVariants.{Three}
use Rattle.paper.specs.declared.Entry.{Entry}
use Rattle.demands.specs.Before.{ComesTo}

-- of these entries the one at place k is the last that is such
pub record Last (es : List Entry) (such : Entry → Type 0) (k : ℕ) : Type 0 where
  pub within : k < length es
  pub is : such (entry_at es k)
  pub none_later : (j : ℕ) → k < j → j < length es → ¬ such (entry_at es j)

-- a listed record of the processor
abbrev pub On : ℕ → Entry → Type 0
On p e = e.body.processor ≡ p

-- "a -904 mark with three data under descriptor 2", of the processor
pub record Mark (p : ℕ) (e : Entry) : Type 0 where
  pub on : On p e
  pub kind : e.body.kind ≡ negsuc 1
  pub event : e.body.event ≡ negsuc 903
  pub picl : ℤ
  pub user : ℤ
  pub trace : ℤ
  pub three : e.body.values ≡ Three picl user trace

-- its last one has "the expected three"
pub record AsExpected (a : Asked) (es : List Entry) (p : ℕ) : Type 0 where
  pub place : ℕ
  pub last : Last es (Mark p) place
  pub picl : last.is.picl ≡ a.picl
  pub user : last.is.user ≡ a.user
  pub trace : last.is.trace ≡ a.trace

-- "a processor with listed records has no such mark, or its last one differs from the expected three"; "the line is that of its last
-- listed record"
pub record Off (a : Asked) (es : List Entry) (p line : ℕ) : Type 0 where
  pub place : ℕ
  pub last : Last es (On p) place
  pub its_line : (entry_at es place).line ≡ line
  pub differs : ¬ AsExpected a es p

-- it is "1 for on", and "The smallest such processor decides"
pub record Decides (a : Asked) (es : List Entry) (line : ℕ) : Type 0 where
  pub on : a.levels ≡ 1
  pub processor : ℕ
  pub off : Off a es processor line
  pub smallest : (q : ℕ) → q < processor → (n : ℕ) → ¬ Off a es q n

-- 17: all lines are good, and their records call for it
pub record OtherLevels (i : Inputs) (line : ℕ) : Type 0 where
  -- one more than there are lines
  pub end : ℕ
  pub comes : ComesTo i end done
  pub decides : Decides i.asked comes.before line

-- no processor calls for it
abbrev pub AtLevels : Asked → List Entry → Type 0
AtLevels a es = a.levels ≡ 1 → (p n : ℕ) → ¬ Off a es p n
