use Rattle.std.proofs.Common.{◌≡◌, drop}
use Rattle.nddl_construction.specs.Scene.{grounds_of}
use Rattle.nddl_construction.specs.Outside.{is_outside_along}
use Rattle.nddl_construction.proofs.outside.is_outside_along.Given as goal

-- what is said along those that are left is said along all
abbrev pub invariant-loop-entry : goal.invariant-loop-entry
invariant-loop-entry l =
    is_outside_along (grounds_of l.footing) l.objects l.name l.value (drop l.entry-index l.line)
    ≡ is_outside_along (grounds_of l.footing) l.objects l.name l.value l.line
