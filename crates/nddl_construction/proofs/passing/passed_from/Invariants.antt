use Rattle.std.proofs.Common.{◌≡◌, ◌++◌, drop}
use Rattle.std.specs.Prelude.{Some}
use Rattle.nddl_construction.specs.Scene.{grounds_of}
use Rattle.nddl_construction.specs.Passing.{passed_from}
use Rattle.nddl_construction.proofs.passing.passed_from.Given as goal

-- those so far and those of the classes that are left, which are passed this, are all
abbrev pub invariant-loop-class : goal.invariant-loop-class
invariant-loop-class l =
    l.found.items ++ passed_from (grounds_of l.footing) l.objects (drop l.class-index l.line) l.here
    ≡ passed_from (grounds_of l.footing) l.objects l.line (Some l.fn.values)
