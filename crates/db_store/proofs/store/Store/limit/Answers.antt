use Rattle.db_store.proofs.Following.{net_limited}
use Rattle.db_store.proofs.Going.{net_marks}
use Rattle.db_store.proofs.Steps.{limit_kept, limit_tables}
use Rattle.db_store.proofs.store.Store.limit.Goals as goal

pub invariant_of-self : goal.invariant_of-self
invariant_of-self c = limit_kept _ c.args.self.now c.args.variable c.args.to.now c.limit.result c.limit.new.self c.self.view_is c.limit.ensures c.self.invariant

pub returns-clause-marks : goal.returns-clause-marks
returns-clause-marks c =
    net_marks _ c.args.self.now c.limit.new.self c.self.view_is (c.marks_stay.ensures.limited _ _ c.args.variable c.args.to.now c.limit.result c.limit.ensures)
    (net_limited c.args.variable c.args.to.now c.limit.result _ c.limit.new.self c.limit.ensures) (limit_tables c.args.variable c.args.to.now c.limit.result _ c.limit.new.self c.limit.ensures)
