use Rattle.std.specs.Prelude.{◌≡◌, ◌+◌, drop}
use Rattle.model_core.specs.Block.{plain_entries}
use Rattle.model_rules.specs.Amounts.{amount_of}
use Rattle.model_rules.proofs.amounts.+amounts.Given as goal

-- the room that is left is less by what is behind
abbrev pub invariant-left_behind-loop-entry : goal.invariant-left_behind-loop-entry
invariant-left_behind-loop-entry l =
    l.left + amount_of l.amount (plain_entries l.entries) ≡ l.room + amount_of l.amount (plain_entries (drop l.entry-index l.entries))
