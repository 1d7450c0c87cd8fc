-- The places so far, with those of what is left, are all.
use Rattle.std.proofs.Common.{◌≡◌, ◌++◌, drop}
use Rattle.model_core.specs.Block.{plain_entries}
use Rattle.model_core.specs.Blocks.{direct}
use Rattle.rule_engine.specs.Lists.{branch_places}
use Rattle.rule_engine.proofs.block.branches_at.Given as goal

abbrev pub invariant-loop-place : goal.invariant-loop-place
invariant-loop-place l =
    l.places.items ++ branch_places l.place (direct (plain_entries (drop l.place l.entries))) ≡ branch_places 0 (direct (plain_entries l.entries))
