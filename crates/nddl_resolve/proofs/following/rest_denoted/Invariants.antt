use Rattle.std.proofs.Common.{◌≡◌, drop}
use Rattle.nddl_hierarchy.specs.Facts.{facts_of}
use Rattle.nddl_resolve.specs.Following.{rest_denoted}
use Rattle.nddl_resolve.proofs.following.rest_denoted.Given as goal

-- what the names that are left mean from here is what all mean from the start
abbrev pub invariant-loop-name : goal.invariant-loop-name
invariant-loop-name l =
    rest_denoted (facts_of l.basis) l.first l.here (drop l.name-index l.names)
    ≡ rest_denoted (facts_of l.basis) l.first l.fn.begin l.names
