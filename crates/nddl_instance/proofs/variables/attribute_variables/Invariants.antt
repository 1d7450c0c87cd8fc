use Rattle.std.proofs.Common.{◌≡◌, ◌++◌, drop}
use Rattle.nddl_instance.specs.Modelled.{attribute_variables}
use Rattle.nddl_instance.proofs.variables.attribute_variables.Given as goal

-- the variables so far and those of the attributes that are left are all
abbrev pub invariant-loop-attribute : goal.invariant-loop-attribute
invariant-loop-attribute l =
    l.variables ++ attribute_variables (drop l.attribute-index l.attributes) ≡ attribute_variables l.attributes
