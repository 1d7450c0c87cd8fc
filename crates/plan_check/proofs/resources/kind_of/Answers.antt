use Rattle.plan_check.proofs.Sorting.{no_sort}
use Rattle.plan_check.proofs.resources.kind_of.Goals as goal

pub returns-in-None-pred_in : goal.returns-in-None-pred_in
returns-in-None-pred_in c = no_sort c.args.model.now c.args.token.now c.in-Some.pred c.in-Some.ensures c.in-None-pred_in.ensures

pub returns-in-None : goal.returns-in-None
returns-in-None c = λ kind sort. c.in-None.ensures sort.slot sort.has_token
