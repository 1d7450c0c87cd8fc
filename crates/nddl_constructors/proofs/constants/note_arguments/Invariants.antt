use Rattle.std.proofs.Common.{◌≡◌, drop}
use Rattle.nddl_symbols.specs.Finding.{earliest_fault}
use Rattle.nddl_hierarchy.specs.Facts.{facts_of}
use Rattle.nddl_resolve.specs.Paths.{around_of}
use Rattle.nddl_constructors.specs.Constants.{constants_faults}
use Rattle.nddl_constructors.specs.Wanted.{wanted_kinds}
use Rattle.nddl_constructors.proofs.constants.note_arguments.Given as goal

-- the earliest so far and of those of the arguments that are left is the earliest of all
abbrev pub invariant-loop-number : goal.invariant-loop-number
invariant-loop-number l =
    earliest_fault l.first
    (constants_faults (facts_of l.basis) (around_of l.around) l.decl (wanted_kinds (facts_of l.basis) l.wanted) l.number (drop l.number l.arguments))
    ≡ earliest_fault l.initial.first
    (constants_faults (facts_of l.basis) (around_of l.around) l.decl (wanted_kinds (facts_of l.basis) l.wanted) 0 l.arguments)
