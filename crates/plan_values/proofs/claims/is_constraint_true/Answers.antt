use Rattle.plan_values.specs.Meanings.{context_of}
use Rattle.plan_values.proofs.Saying.{constraint_answer, nothing_said}
use Rattle.plan_values.proofs.claims.is_constraint_true.Goals as goal

pub returns-then-all_count : goal.returns-then-all_count
returns-then-all_count c =
    constraint_answer c.args.model.now c.args.plan.now (context_of c.args.at) c.args.kind c.args.terms.now c.are_true.result c.if-all_count.ensures c.are_true.ensures

pub returns-else-all_count : goal.returns-else-all_count
returns-else-all_count c =
    nothing_said c.args.model.now c.args.plan.now (context_of c.args.at) c.args.kind c.args.terms.now c.if-all_count.ensures
