use Rattle.std.proofs.Common.{◌∙◌, ap}
use Rattle.nddl_symbols.specs.Finding.{earliest_fault}
use Rattle.nddl_objects.specs.Objects.{progress_fault}
use Rattle.nddl_problem.specs.Compiled.{problem_faults}
use Rattle.nddl_problem.specs.Outlined.{known_of}
use Rattle.nddl_problem.proofs.judging.find_fault.Goals as goal

pub returns : goal.returns
returns c =
    c.in_ok-note_problem.ensures
    ∙ ap (λ first. earliest_fault first (problem_faults (known_of c.args.outline.now)))
    (c.first_fault-first.ensures ∙ ap progress_fault c.requires.made)
