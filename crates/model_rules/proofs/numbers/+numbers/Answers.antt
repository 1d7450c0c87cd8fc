use Rattle.model_rules.specs.Numbered.{numbers_of}
use Rattle.model_rules.proofs.Splitting.{numbers_none, numbers_split, entry_added, entries_added}
use Rattle.model_rules.proofs.numbers.+numbers.Goals as goal

pub add_numbers-loop-entry-preserved : goal.add_numbers-loop-entry-preserved
add_numbers-loop-entry-preserved t c =
    entry_added (numbers_of c.args.sort) (numbers_split c.args.sort) (numbers_none c.args.sort) c.args.entries.now c.loop-entry.entry-index c.entry-item.result
    c.args.numbers.now.items c.loop-entry.numbers.items c.add_numbers_in.new.numbers.items c.loop-entry-test.true c.entry-item.is c.in_ok-add_numbers_in.ensures c.loop-entry.invariant

pub add_numbers-returns : goal.add_numbers-returns
add_numbers-returns t c =
    entries_added (numbers_of c.args.sort) (numbers_split c.args.sort) (numbers_none c.args.sort) c.args.entries.now c.loop-entry.entry-index
    c.args.numbers.now.items c.loop-entry.numbers.items c.loop-entry-test.false c.loop-entry.invariant
