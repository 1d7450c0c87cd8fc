use Rattle.std.proofs.Common.{◌≡◌, drop, map}
use Rattle.nddl_symbols.specs.Finding.{earliest_fault}
use Rattle.nddl_hierarchy.specs.Facts.{facts_of}
use Rattle.nddl_rule_check.specs.Rules.{all_rule_faults}
use Rattle.nddl_rule_check.proofs.rules.note_rules.Given as goal

-- the earliest so far and of those of the declarations that are left is the earliest of all
abbrev pub invariant-loop-number : goal.invariant-loop-number
invariant-loop-number l =
    earliest_fault l.first (all_rule_faults (facts_of l.basis) l.number (map (λ decl. decl.now) (drop l.number l.decls)))
    ≡ earliest_fault l.initial.first (all_rule_faults (facts_of l.basis) 0 (map (λ decl. decl.now) l.decls))
