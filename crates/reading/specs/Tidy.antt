-- What every listed record keeps to: its time is one that the format holds, its processor and its peer are below 64, its record type,
-- event type and data are whole numbers, and its message is what its data say.
use Rattle.std.specs.Prelude.{◌≤◌, ◌<◌, ◌≡◌, ℤ, nat_abs, Some}
use Rattle.paper.specs.Line.{message_of}
use Rattle.paper.specs.declared.Data.{Data}
use Rattle.paper.specs.declared.Data.TheVariants.{Three, Others}
use Rattle.paper.specs.declared.Message.{Message}
use Rattle.paper.specs.declared.Role.{Role}
use Rattle.paper.specs.declared.Role.TheVariants.{Neither, Send, Receive}
use Rattle.paper.specs.declared.Record.{Record}
use Rattle.paper.specs.declared.Line.{Line}
use Rattle.paper.specs.declared.Line.TheVariants.{Refused, Passed, Listed}

-- a time that the format holds
abbrev pub InRange : ℤ → Type 0
InRange t = nat_abs t ≤ 999999999999999

-- a whole number of at most nine digits
abbrev pub Whole : ℤ → Type 0
Whole z = nat_abs z ≤ 999999999

pub record TidyMessage (m : Message) : Type 0 where
  pub length : m.length ≤ 999999999
  pub peer : m.peer < 64

abbrev pub TidyRole : Role → Type 0
TidyRole Neither = Unit
TidyRole (Send m) = TidyMessage m
TidyRole (Receive m) = TidyMessage m

abbrev pub TidyData : Data → Type 0
TidyData (Three a b c) = Whole a × Whole b × Whole c
TidyData Others = Unit

-- a message is what its three data say
abbrev pub Says : Role → Data → Type 0
Says Neither values = Unit
Says (Send m) values = message_of values ≡ Some m
Says (Receive m) values = message_of values ≡ Some m

pub record TidyRecord (r : Record) : Type 0 where
  pub time : InRange r.time
  pub processor : r.processor < 64
  pub kind : Whole r.kind
  pub event : Whole r.event
  pub values : TidyData r.values
  pub role : TidyRole r.role
  pub says : Says r.role r.values

abbrev pub TidyLine : Line → Type 0
TidyLine (Refused fault spot) = Unit
TidyLine Passed = Unit
TidyLine (Listed r) = TidyRecord r
