use Rattle.std.proofs.Common.{◌≡◌, ◌++◌, drop}
use Rattle.nddl_construction.specs.Reading.{fine_data}
use Rattle.nddl_construction.specs.Scene.{grounds_of, scenery_of}
use Rattle.nddl_construction.proofs.reading.fine_data.Given as goal

-- those so far and those of the arguments that are left are all
abbrev pub invariant-loop-number : goal.invariant-loop-number
invariant-loop-number l =
    l.found.items
    ++ fine_data (grounds_of l.footing) (scenery_of l.scene) l.objects l.wants l.number (drop l.number l.exprs)
    ≡ fine_data (grounds_of l.footing) (scenery_of l.scene) l.objects l.wants 0 l.exprs
