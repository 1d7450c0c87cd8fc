use Rattle.std.proofs.Common.{◌≡◌, [], drop}
use Rattle.nddl_rules.specs.Told.{scope_places}
use Rattle.nddl_rules.proofs.scope.scope_places.Given as goal

-- the names so far with those that are left are all
abbrev pub invariant-loop-number : goal.invariant-loop-number
invariant-loop-number l = scope_places l.places l.number (drop l.number l.scope) ≡ scope_places [] 0 l.scope
