use Rattle.std.proofs.Common.{◌≡◌, ◌++◌, drop}
use Rattle.std.specs.List.{flat_map}
use Rattle.nddl_rules.specs.Reads.{sources_of, value_read}
use Rattle.nddl_rules.proofs.reads.push_values_read.Given as goal

-- the names so far and those of the values that are left are all
abbrev pub invariant-loop-value : goal.invariant-loop-value
invariant-loop-value l =
    l.names ++ flat_map (value_read (sources_of l.sources) l.sight) (drop l.value-index l.values)
    ≡ l.initial.names ++ flat_map (value_read (sources_of l.sources) l.sight) l.values
