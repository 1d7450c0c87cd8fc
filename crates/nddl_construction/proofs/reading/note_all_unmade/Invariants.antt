use Rattle.std.proofs.Common.{◌≡◌, drop}
use Rattle.nddl_symbols.specs.Finding.{earliest_fault}
use Rattle.nddl_construction.specs.Reading.{all_unmade_faults}
use Rattle.nddl_construction.specs.Scene.{grounds_of, scenery_of}
use Rattle.nddl_construction.proofs.reading.note_all_unmade.Given as goal

-- the earliest so far and of those of the arguments that are left is the earliest of all
abbrev pub invariant-loop-expr : goal.invariant-loop-expr
invariant-loop-expr l =
    earliest_fault l.first (all_unmade_faults (grounds_of l.footing) (scenery_of l.scene) (drop l.expr-index l.exprs))
    ≡ earliest_fault l.initial.first (all_unmade_faults (grounds_of l.footing) (scenery_of l.scene) l.exprs)
