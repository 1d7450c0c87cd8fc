-- The names so far, with those of what is left, are all.
use Rattle.std.proofs.Common.{◌≡◌, ◌++◌, ◌<◌, ◌^◌, map, All, drop}
use Rattle.model_core.specs.Block.{plain_entries}
use Rattle.model_core.specs.Blocks.{direct}
use Rattle.model_core.specs.Tokens.{slot_token}
use Rattle.rule_engine.specs.Lists.{slots_in}
use Rattle.rule_engine.proofs.names.slot_names.Given as goal

abbrev pub invariant-loop-entry : goal.invariant-loop-entry
invariant-loop-entry l =
    (l.names.items ++ map (slot_token l.token l.rule) (slots_in (direct (plain_entries (drop l.entry-index l.entries))))
    ≡ map (slot_token l.token l.rule) (slots_in (direct (plain_entries l.entries))))
    × All (λ slot. slot < 2 ^ 16) (slots_in (direct (plain_entries (drop l.entry-index l.entries))))
