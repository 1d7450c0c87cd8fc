use Rattle.std.proofs.Common.{◌≡◌, ◌++◌, drop, map}
use Rattle.nddl_construction.specs.declared.made.NamedObject.TheVariants.{Unmade}
use Rattle.nddl_objects.proofs.objects.unmade.Given as goal

-- those so far and those of the names that are left are all
abbrev pub invariant-loop-name : goal.invariant-loop-name
invariant-loop-name l =
    l.named_objects.items ++ map (λ name. Unmade) (drop l.name-index l.names) ≡ map (λ name. Unmade) l.names
