use Rattle.std.proofs.Common.{◌≡◌, drop}
use Rattle.nddl_declarations.specs.Members.{parameters_of}
use Rattle.nddl_hierarchy.specs.Members.{named_typed}
use Rattle.nddl_resolve.proofs.predicates.parameter_named.Given as goal

-- what is found among those that are left is found among all
abbrev pub invariant-loop-part : goal.invariant-loop-part
invariant-loop-part l =
    named_typed l.name (parameters_of (drop l.part-index l.parts)) ≡ named_typed l.name (parameters_of l.parts)
