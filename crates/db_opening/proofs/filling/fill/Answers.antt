use Rattle.std.proofs.lemmas.Result.{err_from_is_err_and}
use Rattle.db_opening.proofs.Beginning.{beginning, roots_fail}
use Rattle.db_opening.proofs.filling.fill.Goals as goal

pub returns-in_err-bring_roots : goal.returns-in_err-bring_roots
returns-in_err-bring_roots c =
    let p = err_from_is_err_and c.from_residual-in_err-bring_roots.result c.from_residual-in_err-bring_roots.ensures.1 in
    rw (p.1, p.2)
    (roots_fail c.args.model.now c.bring_roots.new.store c.bring_roots.result c.bring_roots.ensures.void c.in_err-bring_roots.field-0.0 c.in_err-bring_roots.was)

pub returns : goal.returns
returns c =
    let posted = c.in_ok-post_problem.ensures in
    beginning c.args.model.now c.post_problem.new.store posted.begun posted.roots posted.said posted.tables
