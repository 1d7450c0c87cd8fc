use Rattle.std.proofs.Common.{◌≡◌, drop}
use Rattle.nddl_symbols.specs.Finding.{earliest_fault}
use Rattle.nddl_hierarchy.specs.Facts.{facts_of}
use Rattle.nddl_rule_check.specs.Rules.{members_rule_faults}
use Rattle.nddl_rule_check.proofs.rules.note_members.Given as goal

-- the earliest so far and of those of the members that are left is the earliest of all
abbrev pub invariant-loop-place : goal.invariant-loop-place
invariant-loop-place l =
    earliest_fault l.first (members_rule_faults (facts_of l.spot.basis) l.spot.decl l.entry l.place (drop l.place l.members))
    ≡ earliest_fault l.initial.first (members_rule_faults (facts_of l.spot.basis) l.spot.decl l.entry 0 l.members)
