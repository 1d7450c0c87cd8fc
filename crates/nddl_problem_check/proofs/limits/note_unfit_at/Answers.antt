use Rattle.std.proofs.Common.{◌≡◌, Bool, subst}
use Rattle.std.specs.Prelude.{OnOk}
use Rattle.nddl_symbols.specs.Finding.{earliest_fault}
use Rattle.nddl_problem_check.specs.Fitness.{outset_at, unfit_faults_from}
use Rattle.nddl_problem_check.proofs.limits.note_unfit_at.Goals as goal

pub returns : goal.returns
returns c =
    let outset = outset_at c.args.start.now in
    let P : Bool → Type 0 = λ are_fine. OnOk c.note_all_unfit.result (c.note_all_unfit.new.first
    ≡ earliest_fault c.args.first.now (unfit_faults_from outset are_fine 0 outset.grounds.facts.program)) in
    subst P c.in_ok-are_fine.ensures c.note_all_unfit.ensures
