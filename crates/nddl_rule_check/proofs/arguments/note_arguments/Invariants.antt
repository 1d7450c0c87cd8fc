use Rattle.std.proofs.Common.{◌≡◌, drop}
use Rattle.std.specs.Prelude.{None}
use Rattle.nddl_symbols.specs.Finding.{earliest_fault}
use Rattle.nddl_hierarchy.specs.Facts.{facts_of}
use Rattle.nddl_resolve.specs.Paths.{around_of}
use Rattle.nddl_rule_check.specs.Arguments.{arguments_faults}
use Rattle.nddl_rule_check.specs.Constraints.{asked_among}
use Rattle.nddl_rule_check.proofs.arguments.note_arguments.Given as goal

-- the earliest so far and of those of the arguments that are left is the earliest of all
abbrev pub invariant-loop-place : goal.invariant-loop-place
invariant-loop-place l =
    earliest_fault l.first
    (arguments_faults (facts_of l.spot.basis) (around_of l.around) l.spot.decl (asked_among l.decimal l.kind) l.place l.compared (drop l.place l.exprs))
    ≡ earliest_fault l.initial.first
    (arguments_faults (facts_of l.spot.basis) (around_of l.around) l.spot.decl (asked_among l.decimal l.kind) 0 None l.exprs)
