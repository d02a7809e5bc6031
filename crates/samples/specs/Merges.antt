-- What the sixth change request and its reading say of merging: each a call from the bytes of two traces, with what it comes to, the whole
-- room afterwards and the program's whole report of it.
use Rattle.std.specs.Prelude.{ℕ, ◌≡◌, List, [], ◌∷◌, ◌++◌, length, replicate, Result, Ok, Err}
use Prim.Native.String.{String}
use Rattle.paper.specs.Columns.{in_line, nowhere}
use Rattle.paper.specs.Merging.{Merging, Mergence, join, merged_of}
use Rattle.paper.specs.declared.Fault.{Fault}
use Rattle.paper.specs.declared.Site.{Site}
use Rattle.paper.specs.declared.Tally.{Tally}
use Rattle.paper.specs.declared.Which.{Which}
use Rattle.paper.specs.declared.Which.TheVariants.{Neither, First, Second}
use Rattle.paper.specs.declared.Unmerged.{Unmerged}
use Rattle.paper.specs.declared.Joined.{Joined}
use Rattle.report.specs.Replied.{replied_shown}
use Rattle.report.specs.declared.Replied.{Replied}
use Rattle.samples.specs.Samples.{joined, entry0, entry1, node0, node1}

-- ---- the traces

-- an unlisted line of processor 0, later than what follows it, and one of the same processor for another trace
abbrev over0 : String
over0 = "-5 5 0.000009 0 0 0\n"

abbrev over_too : String
over_too = "-5 5 0.000001 0 0 1 x\n"

-- a record of processor 1 between the two
abbrev entry5 : String
entry5 = "-3 5 0.000005 1 0 0\n"

-- ---- the calls

-- so many bytes of a room that holds 7s
abbrev lent : ℕ → List ℕ
lent n = replicate n 7

abbrev merging : ℕ → ℕ → List String → List String → Merging
merging choice room first second = record { first = joined first; second = joined second; choice = choice; room = lent room }

abbrev tally : ℕ → ℕ → Tally
tally listed passed = record { listed = listed; passed = passed }

-- these lines in the room, and so many of its bytes behind them
abbrev comes_to : ℕ → Tally → Tally → List String → ℕ → Mergence
comes_to lines a b merged behind =
    record {
      joint = Ok (record { lines = lines; written = length (joined merged); first = a; second = b });
      room = joined merged ++ lent behind;
    }

abbrev refused : Fault → Which → Site → ℕ → Mergence
refused fault w site room = record { joint = Err (record { fault = fault; which = w; site = site }); room = lent room }

pub record Merge : Type 0 where
  pub call : Merging
  pub comes : Mergence
  pub shows : List String

abbrev replied : Result Joined Unmerged → Replied
replied (Err why) = Replied.Refused (merged_of (Err why))
replied (Ok all) = Replied.Merged all

unfoldable pub merges : List Merge
merges =
    -- "at each step the line with the smaller timestamp goes next"
    record {
      call = merging 1 145 node0 node1;
      comes = comes_to 5 (tally 3 0) (tally 2 0)
          ("-4 -52 0.000009 1 0 3 2 8 1 0\n" ∷ "-3 -21 0.000010 0 0 3 2 8 1 1\n" ∷ "-3 -21 0.000011 1 0 3 2 8 2 0\n" ∷ "-4 -21 0.000012 0 0 0\n" ∷ "-4 -51 0.000013 0 0 3 2 8 2 1\n" ∷ []) 3;
      shows = "merged 5 lines\n" ∷ "trace 1 listed 3 passed 0\n" ∷ "trace 2 listed 2 passed 0\n" ∷ [];
    }
    -- "the first trace's where equal", whichever processor it is
    ∷ record {
      call = merging 1 40 (entry1 ∷ []) (entry0 ∷ []);
      comes = comes_to 2 (tally 1 0) (tally 1 0) (entry1 ∷ entry0 ∷ []) 0;
      shows = "merged 2 lines\n" ∷ "trace 1 listed 1 passed 0\n" ∷ "trace 2 listed 1 passed 0\n" ∷ [];
    }
    -- only the two lines at the heads are compared, passed-over ones too: the merged trace need not be sorted
    ∷ record {
      call = merging 2 60 (over0 ∷ entry0 ∷ []) (entry5 ∷ []);
      comes = comes_to 3 (tally 1 1) (tally 1 0) (entry5 ∷ over0 ∷ entry0 ∷ []) 0;
      shows = "merged 3 lines\n" ∷ "trace 1 listed 1 passed 1\n" ∷ "trace 2 listed 1 passed 0\n" ∷ [];
    }
    -- 18 looks at listed records only
    ∷ record {
      call = merging 2 62 (over0 ∷ entry0 ∷ []) (over_too ∷ []);
      comes = comes_to 3 (tally 1 1) (tally 0 1) (over_too ∷ over0 ∷ entry0 ∷ []) 0;
      shows = "merged 3 lines\n" ∷ "trace 1 listed 1 passed 1\n" ∷ "trace 2 listed 0 passed 1\n" ∷ [];
    }
    -- "then 18, line 0, .. then 16"
    ∷ record {
      call = merging 1 0 (entry0 ∷ []) (entry1 ∷ entry0 ∷ []);
      comes = refused Fault.SharedProcessor Neither nowhere 0;
      shows = "refused 18 trace 0 line 0 column 0\n" ∷ [];
    }
    ∷ record {
      call = merging 1 39 (entry1 ∷ []) (entry0 ∷ []);
      comes = refused Fault.NoRoom Neither nowhere 39;
      shows = "refused 16 trace 0 line 0 column 0\n" ∷ [];
    }
    -- "Refusal 1 comes first", "then 4 to 12 of the first trace, then of the second"
    ∷ record {
      call = merging 3 9 ("x y\n" ∷ []) ("x y\n" ∷ []);
      comes = refused Fault.BadChoice Neither nowhere 9;
      shows = "refused 1 trace 0 line 0 column 0\n" ∷ [];
    }
    ∷ record {
      call = merging 1 9 ("-3 0 0.000000 64 0 0\n" ∷ []) ("x y" ∷ []);
      comes = refused Fault.Place First (in_line 1 15) 9;
      shows = "refused 9 trace 1 line 1 column 15\n" ∷ [];
    }
    ∷ record {
      call = merging 1 9 (entry0 ∷ []) (entry0 ∷ "-3 0  0 0 0\n" ∷ []);
      comes = refused Fault.Stamp Second (in_line 2 6) 9;
      shows = "refused 6 trace 2 line 2 column 6\n" ∷ [];
    }
    -- an empty trace adds nothing, and two come to an empty one
    ∷ record {
      call = merging 1 20 [] (entry1 ∷ []);
      comes = comes_to 1 (tally 0 0) (tally 1 0) (entry1 ∷ []) 0;
      shows = "merged 1 lines\n" ∷ "trace 1 listed 0 passed 0\n" ∷ "trace 2 listed 1 passed 0\n" ∷ [];
    }
    ∷ record {
      call = merging 2 0 [] [];
      comes = comes_to 0 (tally 0 0) (tally 0 0) [] 0;
      shows = "merged 0 lines\n" ∷ "trace 1 listed 0 passed 0\n" ∷ "trace 2 listed 0 passed 0\n" ∷ [];
    }
    ∷ []

-- each comes to what it should, and is reported so
unfoldable pub Merged : List Merge → Type 0
Merged [] = Unit
Merged (m ∷ ms) = (join m.call ≡ m.comes) × (replied_shown (replied (join m.call).joint) ≡ joined m.shows) × Merged ms
