use Rattle.std.proofs.Common.{◌≡◌, ◌++◌, drop}
use Rattle.nddl_hierarchy.specs.Facts.{facts_of}
use Rattle.nddl_objects.specs.Modelled.{modelled_objects}
use Rattle.nddl_objects.proofs.modelled.modelled_objects.Given as goal

-- those so far and those of the objects that are left are all
abbrev pub invariant-loop-object : goal.invariant-loop-object
invariant-loop-object l =
    l.made ++ modelled_objects (facts_of l.basis) l.classes (drop l.object-index l.objects)
    ≡ modelled_objects (facts_of l.basis) l.classes l.objects
