use Rattle.std.proofs.Common.{◌≡◌, ◌++◌, drop}
use Rattle.std.specs.List.{filter_map}
use Rattle.nddl_terms.specs.Readings.{readings_of}
use Rattle.nddl_lower.specs.Locals.{value_number}
use Rattle.nddl_lower.proofs.types.value_numbers.Given as goal

-- the numbers so far and those of the values that are left are all
abbrev pub invariant-loop-value : goal.invariant-loop-value
invariant-loop-value l =
    l.numbers.items ++ filter_map (value_number (readings_of l.reading) l.turns l.growth l.kind) (drop l.value-index l.values)
    ≡ filter_map (value_number (readings_of l.reading) l.turns l.growth l.kind) l.values
