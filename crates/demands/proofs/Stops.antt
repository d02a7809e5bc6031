-- Where the reading stops, where the levels do, where the statistics, and where the matching: rows 5 to 14, 17 and 19 in the words of the
-- definitions.
use Prim.Native.Nat.{ℕ, ◌≤◌}
use mathlib.Core.Path.{◌≡◌}
use Rattle.paper.specs.Numbers.{number_of}
use Rattle.paper.specs.Columns.{in_line, refused_at}
use Rattle.paper.specs.Levels.{levels_of}
use Rattle.paper.specs.Statistics.{statistics_of}
use Rattle.paper.specs.Matching.{matched_of}
use Rattle.paper.specs.Answer.{Inputs}
use Rattle.paper.specs.declared.Choice.{Choice}
use Rattle.paper.specs.declared.Fault.{Fault}
use Rattle.paper.specs.declared.Site.{Site}
use Rattle.demands.specs.Steps.{Begun, reading, Read, entries, Levelled, Compared}

-- a site is its line and its column
pub site_is : (s : Site) (n column : ℕ) → s.line ≡ n → s.column ≡ column → s ≡ in_line n column
site_is s n column a b = rw (← a, ← b)

-- 5 to 12, those of the lines
abbrev pub OfALine : Fault → Type 0
OfALine fault = (5 ≤ number_of fault) × (number_of fault ≤ 12)

pub record BadLine (i : Inputs) (fault : Fault) (site : Site) : Type 0 where
  pub choice : Choice
  pub begun : Begun i choice
  pub stops : (reading i choice).stop ≡ refused_at fault site

pub record BadLevels (i : Inputs) (fault : Fault) (site : Site) : Type 0 where
  pub choice : Choice
  pub read : Read i choice
  pub calls : levels_of i.asked (entries i choice) ≡ refused_at fault site

pub record BadStatistics (i : Inputs) (fault : Fault) (site : Site) : Type 0 where
  pub choice : Choice
  pub levelled : Levelled i choice
  pub calls : statistics_of i.asked i.trace (entries i choice) ≡ refused_at fault site

pub record BadReceive (i : Inputs) (fault : Fault) (site : Site) : Type 0 where
  pub choice : Choice
  pub compared : Compared i choice
  pub calls : matched_of (entries i choice) ≡ refused_at fault site
