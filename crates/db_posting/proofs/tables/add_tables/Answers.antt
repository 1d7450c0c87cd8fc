use Rattle.std.proofs.Common.{◌≤◌, length, sym, subst, arith}
use Rattle.std.proofs.lemmas.List.Elements.{All-weaker}
use Rattle.db_posting.specs.Tables.{HaveTables}
use Rattle.db_posting.proofs.Filling.{HasAtMost, tables_more, fields_are, tables_long, AreTablesTo}
use Rattle.db_posting.proofs.Storing.{only_tables_both}
use Rattle.db_posting.proofs.tables.add_tables.Goals as goal

pub loop-number-preserved : goal.loop-number-preserved
loop-number-preserved c =
    let old = c.args.store.now in
    let loop = c.loop-number in
    let new = c.add_field.new.store in
    let step = c.in_ok-add_field.ensures in
    let added = step.ok in
    record {
      count = tables_long loop.store.net.tables new.net.tables loop.number added.0 loop.invariant.count added.2;
      each = tables_more c.args.model.now loop.store.net.tables new.net.tables loop.number added.0 loop.invariant.count added.1 added.2 loop.invariant.each;
      only = only_tables_both old loop.store new loop.invariant.only step.only;
    }

pub returns-clause-fields : goal.returns-clause-fields
returns-clause-fields c =
    let model = c.args.model.now in
    let loop = c.loop-number in
    let tables = loop.store.net.tables in
    let long = loop.invariant.count in
    let last = c.loop-number-test.false in
    let have : HaveTables model tables = All-weaker (HasAtMost c.in_ok-number-end.number-end) (HasAtMost (length tables))
    (λ class few. let le : length class.fields ≤ c.in_ok-number-end.number-end = few in omega (arith, le, last, long)) model.classes c.in_ok-number-end.ensures in
    fields_are model c.requires.lawful tables have (subst (AreTablesTo model tables) (sym long) loop.invariant.each)
