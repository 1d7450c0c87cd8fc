use Rattle.std.specs.Prelude.{◌≡◌, ◌++◌, drop}
use Rattle.model_core.specs.Block.{plain_entries}
use Rattle.model_rules.specs.Nested.{names_of}
use Rattle.model_rules.proofs.names.add_names.Given as goal

-- what is there and what is left make the whole
abbrev pub invariant-loop-entry : goal.invariant-loop-entry
invariant-loop-entry l =
    l.seen.items ++ names_of (plain_entries (drop l.entry-index l.entries)) ≡ l.initial.seen.items ++ names_of (plain_entries l.entries)
