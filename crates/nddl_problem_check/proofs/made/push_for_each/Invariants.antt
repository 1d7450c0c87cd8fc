use Rattle.std.proofs.Common.{◌≡◌, ◌++◌, drop, map}
use Rattle.nddl_problem_check.specs.Posts.{place_here}
use Rattle.nddl_problem_check.proofs.made.push_for_each.Given as goal

-- the places so far and those of the names that are left are all
abbrev pub invariant-loop-name : goal.invariant-loop-name
invariant-loop-name l =
    l.places.items ++ map (λ name. place_here l.decl l.at) (drop l.name-index l.names)
    ≡ l.initial.places.items ++ map (λ name. place_here l.decl l.at) l.names
