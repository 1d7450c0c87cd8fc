-- A lawful predicate has few parameters, and there is one predicate of the number.
use Rattle.std.proofs.Common.{◌≡◌, length, ap, arith}
use Rattle.eu_name.proofs.Members.{get_same}
use Rattle.model_core.specs.declared.class.Pred.{Pred}
use Rattle.plan_states.proofs.Counting.{few_parts}
use Rattle.plan_states.proofs.parts.count_parts.Goals as goal

pub overflow_cast-result : goal.overflow_cast-result
overflow_cast-result c = omega (arith, few_parts c.args.model.now c.args.pred c.in-Some.found.now c.requires c.in-Some.ensures, c.len.ensures)

pub overflow_add-result : goal.overflow_add-result
overflow_add-result c = omega (arith, few_parts c.args.model.now c.args.pred c.in-Some.found.now c.requires c.in-Some.ensures, c.len.ensures)

pub returns-in-Some : goal.returns-in-Some
returns-in-Some c = λ found is.
    let same : c.in-Some.found.now ≡ found = get_same c.args.model.now.preds c.args.pred c.in-Some.found.now found c.in-Some.ensures is in
    omega (arith, c.len.ensures, ap (λ (p : Pred). length p.params) same)

pub returns-in-None : goal.returns-in-None
returns-in-None c = λ found is. absurd (c.in-None.ensures found is)
