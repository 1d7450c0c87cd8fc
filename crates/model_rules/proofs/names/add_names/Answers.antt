use Rattle.std.proofs.Common.{refl}
use Rattle.model_rules.specs.Nested.{names_of}
use Rattle.model_rules.proofs.Splitting.{names_split, entry_added, entries_added}
use Rattle.model_rules.proofs.names.add_names.Goals as goal

pub loop-entry-preserved : goal.loop-entry-preserved
loop-entry-preserved c =
    entry_added names_of names_split refl c.args.entries.now c.loop-entry.entry-index c.entry-item.result c.args.seen.now.items c.loop-entry.seen.items c.add_name.new.seen.items
    c.loop-entry-test.true c.entry-item.is c.in_ok-add_name.ensures c.loop-entry.invariant

pub returns : goal.returns
returns c =
    entries_added names_of names_split refl c.args.entries.now c.loop-entry.entry-index c.args.seen.now.items c.loop-entry.seen.items c.loop-entry-test.false c.loop-entry.invariant
