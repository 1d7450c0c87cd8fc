use Rattle.std.proofs.Common.{◌≡◌, drop, map}
use Rattle.nddl_symbols.specs.Finding.{earliest_fault}
use Rattle.nddl_problem_check.specs.Fitness.{outset_at}
use Rattle.nddl_problem_check.specs.Sound.{making_faults_from}
use Rattle.nddl_problem_check.proofs.sound.note_all_making.Given as goal

-- the earliest so far and of those of the declarations that are left is the earliest of all
abbrev pub invariant-loop-number : goal.invariant-loop-number
invariant-loop-number l =
    earliest_fault l.first
    (making_faults_from (outset_at l.start) l.closed l.number (map (λ decl. decl.now) (drop l.number l.decls)))
    ≡ earliest_fault l.initial.first (making_faults_from (outset_at l.start) l.closed 0 (map (λ decl. decl.now) l.decls))
