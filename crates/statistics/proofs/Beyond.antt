-- What the code finds out of a store's records before it adds any: whether each is one that a line gives.
use Rattle.std.proofs.Common.{◌≡◌, ℕ, ◌+◌, ◌<◌, ◌≤◌, Bool, true, false, ltb, List, ℤ, sym, true≢false, arith, ltb-false, ltb-true}
use borrow.Author.Tests.{lt-ltb}
use native.Mathlib.Decide.{dec_lt}
use Rattle.paper.specs.Statistics.{length_in}
use Rattle.paper.specs.declared.Entry.{Entry}
use Rattle.paper.specs.declared.Role.{Role}
use Rattle.paper.specs.declared.Role.TheVariants.{Neither, Send, Receive}
use Rattle.reading.specs.Tidy.{TidyRecord, TidyRole}
use Rattle.signed.specs.Codes.{code_of}
use Rattle.store.specs.Layout.{entry_from}
use Rattle.statistics.specs.Ready.{Lacks, Held, AllHeld}
use Rattle.statistics.proofs.Since.{code_in_range, code_low}

-- ---- one record

module _ (e : Entry) {t : ℤ} (its-time : t ≡ e.body.time) {code : ℕ} (its-code : code ≡ code_of t) where
  same_code : code ≡ code_of e.body.time
  same_code = rw (← its-time) its-code

  pub time_beyond : 1999999999999998 < code → Lacks (Held e) (ltb 1999999999999998 code)
  time_beyond h =
      rw (lt-ltb 1999999999999998 code h)
      (record {
        holds = λ f. absurd (true≢false f);
        fails = λ f held. omega (arith, same_code, code_low e.body.time held.time);
      })

  module _ {role : Role} (its-role : role ≡ e.body.role) {length : ℕ} (its_length : length ≡ length_in role) where
    same_length : length ≡ length_in e.body.role
    same_length = rw (← its-role) its_length

    pub length_decides : code ≤ 1999999999999998 → Lacks (Held e) (ltb 999999999 length)
    length_decides h =
        record {
          holds = λ f. record { time = code_in_range e.body.time (omega (arith, same_code)); length = omega (arith, same_length, ltb-false 999999999 length f) };
          fails = λ f held. omega (arith, same_length, ltb-true 999999999 length f, held.length);
        }

-- a record that a line gives is held
pub tidy_held : (e : Entry) → TidyRecord e.body → Held e
unfolding length_in
tidy_held e t = record { time = t.time; length = low e.body.role t.role }
  where
    low : (r : Role) → TidyRole r → length_in r ≤ 999999999
    low Neither t = omega arith
    low (Send m) t = t.length
    low (Receive m) t = t.length

-- ---- so many

module _ (l : List ℕ) (i : ℕ) {beyond : Bool} (told : Lacks (Held (entry_from l i)) beyond) where
  pub one_beyond : (n : ℕ) → i < n → beyond ≡ true → Lacks (AllHeld l n) true
  one_beyond n h b = record { holds = λ f. absurd (true≢false f); fails = λ f all. told.fails b (all i h) }

  pub one_more_held : AllHeld l i → beyond ≡ false → AllHeld l (i + 1)
  one_more_held all b k a = go (dec_lt k i)
    where
      go : Dec (k < i) → Held (entry_from l k)
      go (yes c) = all k c
      go (no c) = let last : k ≡ i = omega arith in rw last (told.holds b)

pub none_beyond : (l : List ℕ) (i n : ℕ) → AllHeld l i → n ≤ i → Lacks (AllHeld l n) false
none_beyond l i n all h = record { holds = λ f k a. all k (omega arith); fails = λ f held. true≢false (sym f) }
