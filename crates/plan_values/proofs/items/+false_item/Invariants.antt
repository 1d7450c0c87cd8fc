use Rattle.std.proofs.Common.{◌≡◌, ◌+◌, List, drop}
use Rattle.model_core.specs.declared.rule.Turn.{Turn}
use Rattle.model_core.specs.Block.{plain_entries}
use Rattle.model_core.specs.Entries.{Entries}
use Rattle.model_core.specs.Lawful.{item_count}
use Rattle.plan_values.specs.Meanings.{context_of}
use Rattle.plan_values.specs.Openings.{Allows}
use Rattle.plan_values.specs.Walks.{IsReached}
use Rattle.plan_values.proofs.Walking.{PassedUpTo}
use Rattle.plan_values.proofs.items.+false_item.Given as goal

-- how many items are left, and that all so far pass
abbrev pub invariant-false_among-loop-entry : goal.invariant-false_among-loop-entry
invariant-false_among-loop-entry l = record {
  counted : l.number + item_count (plain_entries (drop l.entry-index l.entries)) ≡ l.first + item_count (plain_entries l.entries);
  passed : (top : Entries) (path : List Turn) → IsReached (Allows l.model l.plan (context_of l.at)) top path (plain_entries l.entries) l.reached
      → PassedUpTo l.model l.plan (context_of l.at) top path l.entries l.entry-index l.first l.number;
}
