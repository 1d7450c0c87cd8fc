use Rattle.std.proofs.Common.{◌≡◌, drop}
use Rattle.model_core.specs.Lookup.{first_named}
use Rattle.model_core.proofs.variable.first_named.Given as goal

-- the first of the name among those that are left is the first of all
abbrev pub invariant-loop-number : goal.invariant-loop-number
invariant-loop-number l = first_named l.number l.name (drop l.number l.variables) ≡ first_named 0 l.name l.variables
