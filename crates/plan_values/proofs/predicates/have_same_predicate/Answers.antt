use Rattle.plan_values.proofs.SamePredicate.{preds_answer}
use Rattle.plan_values.proofs.predicates.have_same_predicate.Goals as goal

pub returns-in-Some-pred_of : goal.returns-in-Some-pred_of
returns-in-Some-pred_of c =
    preds_answer c.args.model.now c.args.one.now c.args.other.now c.in-Some.pred c.in-Some-pred_of.found c.is_same_number.result c.in-Some.ensures c.in-Some-pred_of.ensures c.is_same_number.ensures

pub returns-in-None-pred_of : goal.returns-in-None-pred_of
returns-in-None-pred_of c = λ have. c.in-None-pred_of.ensures have.other_slot have.has_other

pub returns-in-None : goal.returns-in-None
returns-in-None c = λ have. c.in-None.ensures have.slot have.has_one
