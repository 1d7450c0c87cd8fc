use Rattle.std.proofs.Common.{◌≡◌, ◌++◌, drop}
use Rattle.std.specs.List.{filter_map}
use Rattle.nddl_env.specs.Objects.{entry_object}
use Rattle.nddl_env.proofs.objects.entry_objects.Given as goal

-- the objects so far and those of the names that are left are all
abbrev pub invariant-loop-entry : goal.invariant-loop-entry
invariant-loop-entry l =
    l.objects.items ++ filter_map (entry_object l.named_objects) (drop l.entry-index l.entries)
    ≡ filter_map (entry_object l.named_objects) l.entries
