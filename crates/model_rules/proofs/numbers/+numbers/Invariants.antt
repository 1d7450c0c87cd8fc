use Rattle.std.specs.Prelude.{◌≡◌, ◌++◌, drop}
use Rattle.model_core.specs.Block.{plain_entries}
use Rattle.model_rules.specs.Numbered.{numbers_of}
use Rattle.model_rules.proofs.numbers.+numbers.Given as goal

-- what is there and what is left make the whole
abbrev pub invariant-add_numbers-loop-entry : goal.invariant-add_numbers-loop-entry
invariant-add_numbers-loop-entry l =
    l.numbers.items ++ numbers_of l.sort (plain_entries (drop l.entry-index l.entries))
    ≡ l.initial.numbers.items ++ numbers_of l.sort (plain_entries l.entries)
