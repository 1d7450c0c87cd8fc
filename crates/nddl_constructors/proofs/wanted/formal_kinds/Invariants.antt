use Rattle.std.proofs.Common.{◌≡◌, ◌++◌, drop, map}
use Rattle.nddl_hierarchy.specs.Facts.{facts_of}
use Rattle.nddl_constructors.specs.Wants.{formal_kind}
use Rattle.nddl_constructors.proofs.wanted.formal_kinds.Given as goal

-- those so far and those of the formals that are left are all
abbrev pub invariant-loop-typed : goal.invariant-loop-typed
invariant-loop-typed l =
    l.wants.items ++ map (formal_kind (facts_of l.basis)) (drop l.typed-index l.formals)
    ≡ map (formal_kind (facts_of l.basis)) l.formals
