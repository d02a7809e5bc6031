-- What was given, at the line's end.
use Rattle.std.specs.Prelude.{Some, None, Ok, Err}
use Prim.Native.Nat.{ℕ}
use mathlib.Core.Path.{◌≡◌}
use mathlib.Core.List.{List}
use Rattle.paper.specs.declared.Asked.{Asked}
use Rattle.named.specs.Values.{choice_of, levels_of, switch_of, share_of}
use Rattle.named.specs.Parts.{cut}
use Rattle.flags.specs.Plan.{Meant, missing, asked_of, needed, concluded}
use Rattle.flags.specs.Spans.{value_in, request_in, plan_in, Planned}
use Rattle.flags.specs.Parts.{values_in, Held}
use Rattle.named.specs.declared.Span.{Span}
use Rattle.named.specs.declared.Name.{Name}
use Rattle.named.specs.declared.Name.TheVariants.{Choice, Trace, Table, Levels, Statistics, Share}
use Rattle.flags.specs.declared.given.Given.{Given}
use Rattle.flags.specs.declared.Lack.{Lack}

-- ---- what is missing

is_missing : (line : List ℕ) (name : Name) {meant : Meant} → missing name ≡ meant → Planned line meant (Err (Lack.Missing name))
unfolding plan_in
is_missing line name e = record { is = e; word_within = λ word q. cc; wishes_within = λ wishes q. cc }

module _ (line : List ℕ) (given : Given) where
  pub no_choice : given.choice ≡ None → Planned line (concluded (values_in line given)) (Err (Lack.Missing Choice))
  unfolding concluded needed values_in value_in
  no_choice e = is_missing line Choice (rw e)

  module _ {choice : Span} (choice-is : given.choice ≡ Some choice) where
    pub no_trace : given.trace ≡ None → Planned line (concluded (values_in line given)) (Err (Lack.Missing Trace))
    unfolding concluded needed values_in value_in
    no_trace e = is_missing line Trace (rw (choice-is, e))

    module _ {trace : Span} (trace-is : given.trace ≡ Some trace) where
      pub no_table : given.table ≡ None → Planned line (concluded (values_in line given)) (Err (Lack.Missing Table))
      unfolding concluded needed values_in value_in
      no_table e = is_missing line Table (rw (choice-is, trace-is, e))

      module _ {table : Span} (table-is : given.table ≡ Some table) where
        pub no_levels : given.levels ≡ None → Planned line (concluded (values_in line given)) (Err (Lack.Missing Levels))
        unfolding concluded needed values_in value_in
        no_levels e = is_missing line Levels (rw (choice-is, trace-is, table-is, e))

        module _ {levels : Span} (levels-is : given.levels ≡ Some levels) where
          pub no_statistics : given.statistics ≡ None → Planned line (concluded (values_in line given)) (Err (Lack.Missing Statistics))
          unfolding concluded needed values_in value_in
          no_statistics e = is_missing line Statistics (rw (choice-is, trace-is, table-is, levels-is, e))

          module _ {statistics : Span} (statistics-is : given.statistics ≡ Some statistics) where
            pub no_share : given.share ≡ None → Planned line (concluded (values_in line given)) (Err (Lack.Missing Share))
            unfolding concluded needed values_in value_in
            no_share e = is_missing line Share (rw (choice-is, trace-is, table-is, levels-is, statistics-is, e))

            module _ {share : Span} (share-is : given.share ≡ Some share) where
              -- ---- or nothing is

              pub all_given : {asked : Asked} → Held line given
                  → asked ≡ asked_of (choice_of (cut line choice)) (levels_of (cut line levels)) (switch_of (cut line statistics)) (share_of (cut line share))
                  → Planned line (concluded (values_in line given)) (Ok (record { asked = asked; trace = trace; table = table; out = given.out }))
              unfolding concluded needed values_in value_in plan_in request_in
              all_given {asked} held is =
                  record {
                    is = rw (choice-is, trace-is, table-is, levels-is, statistics-is, share-is, is);
                    word_within = λ word q. cc;
                    wishes_within = λ other q.
                        let same : other ≡ record { asked = asked; trace = trace; table = table; out = given.out } = cc in
                        rw same (record { trace = rw trace-is at held.trace; table = rw table-is at held.table; out = held.out });
                  }
