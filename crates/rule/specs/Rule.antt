-- A line of latencies: "SENDER RECEIVER MICROSECONDS", a comment or nothing. Numbers have document 01's form of a whole number.
use Rattle.std.specs.Prelude.{ℕ, Bool, cond, ◌&&◌, List, [], ◌∷◌, length, get_or, nat_abs, eqb, Option, Some, None, Result, Ok, Err, ℤ}
use Rattle.paper.specs.Tests.{up_to}
use Rattle.paper.specs.Forms.{whole_of}
use Rattle.rule.specs.Words.{uncommented, trimmed, word, next}
use Rattle.rule.specs.declared.Who.{Who}
use Rattle.rule.specs.declared.Who.TheVariants.{Every, One}
use Rattle.rule.specs.declared.Rule.{Rule}
use Rattle.rule.specs.declared.BadLine.{BadLine}

-- ---- a word

-- a whole number from 0 to `most`
unfoldable pub natural : ℕ → Option ℤ → Option ℕ
natural most None = None
natural most (Some z) = cond (up_to most z) (Some (nat_abs z)) None

-- "`*` for every processor": 42 is the star
unfoldable pub is_star : List ℕ → Bool
is_star w = eqb (length w) 1 && eqb (get_or w 0 0) 42

unfoldable pub one : Option ℕ → Option Who
one None = None
one (Some processor) = Some (One processor)

-- whom a word names, if anybody; processors are 0 to 63
unfoldable pub who_of : List ℕ → Option Who
who_of w = cond (is_star w) (Some Every) (one (natural 63 (whole_of w)))

-- ---- a line

-- what a line says: nothing, or the latency of some pairs; or that it is bad
abbrev pub Meaning : Type 0
Meaning = Result (Option Rule) BadLine

-- nothing may stand behind the third word
unfoldable pub alone : List ℕ → Option ℕ → Option ℕ
alone [] latency = latency
alone (b ∷ l) latency = None

-- the third word's latency, which is 1,000,000 at most
unfoldable pub last_of : List ℕ → Option ℕ
last_of l = alone (next l) (natural 1000000 (whole_of (word l)))

-- no rule without all three of them
unfoldable pub rule_of : Option Who → Option Who → Option ℕ → Option Rule
rule_of None receiver latency = None
rule_of (Some sender) None latency = None
rule_of (Some sender) (Some receiver) None = None
rule_of (Some sender) (Some receiver) (Some latency) = Some (record { sender = sender; receiver = receiver; latency = latency })

-- "SENDER RECEIVER MICROSECONDS"
unfoldable pub three : List ℕ → Option Rule
three l = rule_of (who_of (word l)) (who_of (word (next l))) (last_of (next (next l)))

unfoldable pub on_three : Option Rule → Meaning
on_three None = Err (record {})
on_three (Some rule) = Ok (Some rule)

-- "blank lines", or three words
unfoldable pub on_words : List ℕ → Meaning
on_words [] = Ok None
on_words (b ∷ l) = on_three (three (b ∷ l))

unfoldable pub meaning_of : List ℕ → Meaning
meaning_of l = on_words (trimmed (uncommented l))

-- ---- what a line says of a pair

unfoldable pub covers : Who → ℕ → Bool
covers Every processor = Bool.true
covers (One p) processor = eqb p processor

-- what is known of the latency from s to r after a line, where `old` was known before it: "later lines over earlier ones"
unfoldable pub over : ℕ → ℕ → Option ℕ → Meaning → Option ℕ
over s r old (Err bad) = old
over s r old (Ok None) = old
over s r old (Ok (Some rule)) = cond (covers rule.sender s && covers rule.receiver r) (Some rule.latency) old
