use Rattle.std.proofs.Common.{◌≡◌, ◌++◌, drop, map}
use Rattle.nddl_problem_check.specs.Posts.{global_places}
use Rattle.nddl_problem_check.proofs.posts.global_places.Given as goal

-- the places so far and those of the declarations that are left are all
abbrev pub invariant-loop-number : goal.invariant-loop-number
invariant-loop-number l =
    l.places.items ++ global_places l.number (map (λ decl. decl.now) (drop l.number l.decls))
    ≡ global_places 0 (map (λ decl. decl.now) l.decls)
