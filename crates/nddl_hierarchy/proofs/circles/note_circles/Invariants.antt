use Rattle.std.proofs.Common.{◌≡◌, drop}
use Rattle.nddl_symbols.specs.Finding.{earliest_fault}
use Rattle.nddl_hierarchy.specs.Lines.{circle_faults}
use Rattle.nddl_hierarchy.proofs.circles.note_circles.Given as goal

-- the earliest so far and of those of the names that are left is the earliest of all
abbrev pub invariant-loop-number : goal.invariant-loop-number
invariant-loop-number l =
    earliest_fault l.first (circle_faults l.scope l.lineage.marks.items l.number (drop l.number l.names))
    ≡ earliest_fault l.initial.first (circle_faults l.scope l.lineage.marks.items 0 l.names)
