use Rattle.std.proofs.Common.{◌≤◌, Err, length, sym, ap, ◌∙◌, arith}
use Rattle.std.proofs.lemmas.Result.{err_from_is_err_and}
use Rattle.db_opening.proofs.Beginning.{roots_more, roots_there}
use Rattle.db_opening.proofs.problem.bring_roots.Goals as goal

pub loop-number-preserved : goal.loop-number-preserved
loop-number-preserved c =
    let loop = c.loop-number in
    let new = c.bring_root.new.store in
    let step = c.in_ok-bring_root.ensures in
    record {
      begun = step.begun;
      there = roots_more loop.number loop.store new step.adds loop.invariant.there step.there;
      tables = step.adds.tables ∙ loop.invariant.tables;
    }

pub returns-in_err-bring_root-clause-void : goal.returns-in_err-bring_root-clause-void
returns-in_err-bring_root-clause-void c = λ fails.
    let p = err_from_is_err_and c.from_residual.result c.from_residual.ensures.1 in
    c.bring_root.ensures.void (c.in_err-bring_root.was ∙ ap Err (sym p.2) ∙ sym p.1 ∙ fails)

pub returns-clause-roots : goal.returns-clause-roots
returns-clause-roots c =
    let last = c.loop-number-test.false in
    let count = c.len-number-end.ensures in
    let all : length c.args.model.now.problem.roots ≤ c.loop-number.number = omega (arith, last, count) in
    roots_there c.args.model.now c.loop-number.number c.loop-number.store all c.loop-number.invariant.there
