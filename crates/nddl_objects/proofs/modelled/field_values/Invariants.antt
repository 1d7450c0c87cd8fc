use Rattle.std.proofs.Common.{◌≡◌, ◌++◌, drop}
use Rattle.nddl_objects.specs.Modelled.{field_values}
use Rattle.nddl_objects.proofs.modelled.field_values.Given as goal

-- those so far and those of the fields that are left are all
abbrev pub invariant-loop-variable : goal.invariant-loop-variable
invariant-loop-variable l =
    l.values ++ field_values l.scope l.fields (drop l.variable-index l.variables) ≡ field_values l.scope l.fields l.variables
