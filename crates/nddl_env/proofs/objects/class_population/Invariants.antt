use Rattle.std.proofs.Common.{◌≡◌, ◌++◌, drop, map, pos}
use Rattle.nddl_hierarchy.specs.Facts.{facts_of}
use Rattle.nddl_env.specs.Listing.{class_population}
use Rattle.nddl_env.specs.Objects.{objects_of}
use Rattle.nddl_env.proofs.objects.class_population.Given as goal

-- those so far and those of the objects that are left are all
abbrev pub invariant-loop-number : goal.invariant-loop-number
invariant-loop-number l =
    l.values ++ map pos (objects_of (facts_of l.basis) l.class l.number (drop l.number l.objects))
    ≡ class_population (facts_of l.basis) l.objects l.class
