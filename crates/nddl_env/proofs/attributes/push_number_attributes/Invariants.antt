use Rattle.std.proofs.Common.{◌≡◌, ◌++◌, drop, map}
use Rattle.nddl_env.specs.Shapes.{number_attribute}
use Rattle.nddl_env.proofs.attributes.push_number_attributes.Given as goal

-- the fields so far and those of the variables that are left are all
abbrev pub invariant-loop-variable : goal.invariant-loop-variable
invariant-loop-variable l =
    l.fields ++ map number_attribute (drop l.variable-index l.variables) ≡ l.initial.fields ++ map number_attribute l.variables
