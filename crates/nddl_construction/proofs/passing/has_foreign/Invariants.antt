use Rattle.std.proofs.Common.{◌≡◌, drop}
use Rattle.nddl_construction.specs.Scene.{grounds_of}
use Rattle.nddl_construction.specs.Passing.{has_foreign_from}
use Rattle.nddl_construction.proofs.passing.has_foreign.Given as goal

-- one of the formals that are left is one of all
abbrev pub invariant-loop-number : goal.invariant-loop-number
invariant-loop-number l =
    has_foreign_from (grounds_of l.footing) l.objects l.values l.number (drop l.number l.formals)
    ≡ has_foreign_from (grounds_of l.footing) l.objects l.values 0 l.formals
