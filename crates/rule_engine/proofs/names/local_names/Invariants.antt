-- The names so far, with those of what is left, are all.
use Rattle.std.proofs.Common.{◌≡◌, ◌++◌, ◌<◌, ◌^◌, map, All, drop}
use Rattle.model_core.specs.Block.{plain_entries}
use Rattle.model_core.specs.Blocks.{direct}
use Rattle.eu_name.specs.declared.name.VarName.TheVariants.{Local}
use Rattle.rule_engine.specs.Lists.{locals_in}
use Rattle.rule_engine.proofs.names.local_names.Given as goal

abbrev pub invariant-loop-entry : goal.invariant-loop-entry
invariant-loop-entry l =
    (l.names.items ++ map (Local l.token l.rule) (locals_in (direct (plain_entries (drop l.entry-index l.entries))))
    ≡ map (Local l.token l.rule) (locals_in (direct (plain_entries l.entries))))
    × All (λ local. local < 2 ^ 16) (locals_in (direct (plain_entries (drop l.entry-index l.entries))))
