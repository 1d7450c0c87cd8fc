use Rattle.std.proofs.Common.{◌≡◌, ◌++◌, drop, map}
use Rattle.nddl_hierarchy.specs.Decls.{number_with_body}
use Rattle.nddl_construction.proofs.builders.body_numbers.Given as goal

-- those so far and those of the names that are left are all
abbrev pub invariant-loop-declared : goal.invariant-loop-declared
invariant-loop-declared l =
    l.bodies.items ++ map (number_with_body l.scope) (drop l.declared-index l.names) ≡ map (number_with_body l.scope) l.scope
