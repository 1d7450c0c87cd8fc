-- What is counted and what is left are all.
use Rattle.std.proofs.Common.{◌≡◌, ◌+◌, drop}
use Rattle.model_core.specs.Block.{plain_entries}
use Rattle.model_core.specs.Lawful.{item_count}
use Rattle.rule_engine.proofs.items.+count.Given as goal

abbrev pub invariant-count_items-loop-entry : goal.invariant-count_items-loop-entry
invariant-count_items-loop-entry l =
    l.count + item_count (plain_entries (drop l.entry-index l.entries)) ≡ item_count (plain_entries l.entries)
