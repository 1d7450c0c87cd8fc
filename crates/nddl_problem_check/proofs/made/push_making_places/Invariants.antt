use Rattle.std.proofs.Common.{◌≡◌, ◌++◌, drop, map}
use Rattle.nddl_hierarchy.specs.Facts.{facts_of}
use Rattle.nddl_problem_check.specs.Made.{making_places}
use Rattle.nddl_problem_check.proofs.made.push_making_places.Given as goal

-- the places so far and those of the declarations that are left are all
abbrev pub invariant-loop-number : goal.invariant-loop-number
invariant-loop-number l =
    l.places.items ++ making_places (facts_of l.basis) l.number (map (λ decl. decl.now) (drop l.number l.decls))
    ≡ l.initial.places.items ++ making_places (facts_of l.basis) 0 (map (λ decl. decl.now) l.decls)
