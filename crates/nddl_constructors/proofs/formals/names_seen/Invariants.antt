use Rattle.std.proofs.Common.{◌≡◌, ◌++◌, drop, map}
use Rattle.nddl_hierarchy.specs.Facts.{facts_of}
use Rattle.nddl_constructors.specs.Formals.{formal_seen}
use Rattle.nddl_constructors.proofs.formals.names_seen.Given as goal

-- those so far and those of the formals that are left are all
abbrev pub invariant-loop-typed : goal.invariant-loop-typed
invariant-loop-typed l =
    l.seen ++ map (formal_seen (facts_of l.basis)) (drop l.typed-index l.formals)
    ≡ map (formal_seen (facts_of l.basis)) l.formals
