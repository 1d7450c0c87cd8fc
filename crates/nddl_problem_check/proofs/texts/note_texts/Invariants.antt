use Rattle.std.proofs.Common.{◌≡◌, drop, map}
use Rattle.nddl_symbols.specs.Finding.{earliest_fault}
use Rattle.nddl_hierarchy.specs.Facts.{facts_of}
use Rattle.nddl_problem_check.specs.Texts.{problem_faults_from}
use Rattle.nddl_problem_check.proofs.texts.note_texts.Given as goal

-- the earliest so far and of those of the declarations that are left is the earliest of all
abbrev pub invariant-loop-number : goal.invariant-loop-number
invariant-loop-number l =
    earliest_fault l.first
    (problem_faults_from (facts_of l.basis) l.number (map (λ decl. decl.now) (drop l.number l.decls)))
    ≡ earliest_fault l.initial.first (problem_faults_from (facts_of l.basis) 0 (map (λ decl. decl.now) l.decls))
