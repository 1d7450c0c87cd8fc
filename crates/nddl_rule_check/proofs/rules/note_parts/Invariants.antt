use Rattle.std.proofs.Common.{◌≡◌, drop}
use Rattle.std.specs.List.{flat_map}
use Rattle.nddl_symbols.specs.Finding.{earliest_fault}
use Rattle.nddl_hierarchy.specs.Facts.{facts_of}
use Rattle.nddl_rule_check.specs.Rules.{part_rule_faults}
use Rattle.nddl_rule_check.proofs.rules.note_parts.Given as goal

-- the earliest so far and of those of the parts that are left is the earliest of all
abbrev pub invariant-loop-part : goal.invariant-loop-part
invariant-loop-part l =
    earliest_fault l.first (flat_map (part_rule_faults (facts_of l.spot.basis) l.spot.decl l.visible) (drop l.part-index l.parts))
    ≡ earliest_fault l.initial.first (flat_map (part_rule_faults (facts_of l.spot.basis) l.spot.decl l.visible) l.parts)
