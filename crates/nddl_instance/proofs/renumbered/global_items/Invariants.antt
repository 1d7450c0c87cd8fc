use Rattle.std.proofs.Common.{◌≡◌, ◌++◌, drop}
use Rattle.nddl_instance.specs.Renumbered.{global_items}
use Rattle.nddl_instance.proofs.renumbered.global_items.Given as goal

-- the items so far and those of the entries that are left are all
abbrev pub invariant-loop-entry : goal.invariant-loop-entry
invariant-loop-entry l = l.items ++ global_items l.count (drop l.entry-index l.entries) ≡ global_items l.count l.entries
