use Rattle.std.proofs.Common.{◌≡◌, drop}
use Rattle.nddl_rules.specs.Written.{has_constraint}
use Rattle.nddl_rules.proofs.written.has_constraint.Given as goal

-- there is one among those that are left where there is one among all
abbrev pub invariant-loop-part : goal.invariant-loop-part
invariant-loop-part l = has_constraint (drop l.part-index l.parts) ≡ has_constraint l.parts
