use Rattle.std.proofs.Common.{◌≡◌, slice_get, Some, None, sym, subst}
use Rattle.model_core.specs.declared.model.Model.{Model}
use Rattle.run_load.proofs.Steps.{placed_fault, placed_taken}
use Rattle.run_load.proofs.taking.take_at.Goals as goal

pub returns-in-Some-clause-taken : goal.returns-in-Some-clause-taken
returns-in-Some-clause-taken c = λ placed is.
    let spoken : c.in_ok-kind.field-0 ≡ Some c.in-Some.kind = cc in
    let there : slice_get c.take_copy.new.db.database.model.problem.decisions c.args.place ≡ Some placed =
    subst (λ (m : Model). slice_get m.problem.decisions c.args.place ≡ Some placed) (sym c.take_copy.ensures.model) is in
    placed_fault c.in_ok-kind.field-0 c.in-Some.kind placed c.fault_at.result c.args.db.now.database c.take_copy.new.db.database
    c.take_copy.new.db.database spoken (c.in_ok-kind.ensures.taken placed is) (c.fault_at.ensures placed there)

pub returns-in-None-clause-taken : goal.returns-in-None-clause-taken
returns-in-None-clause-taken c = λ placed is.
    let spoken : c.in_ok-kind.field-0 ≡ None = cc in
    placed_taken c.in_ok-kind.field-0 placed c.args.db.now.database c.take_copy.new.db.database spoken
    (c.in_ok-kind.ensures.taken placed is)
