use Rattle.std.proofs.Common.{◌≡◌, List, slice_get, None, subst, arith}
use Rattle.model_core.specs.declared.class.Pred.{Pred}
use Rattle.db_posting.proofs.Filling.{get_past}
use Rattle.db_decide.proofs.Ruling.{few_rules, rules_counted, no_rules, read_at}
use Rattle.db_decide.proofs.activate.rule_count.Goals as goal

pub overflow_cast-result : goal.overflow_cast-result
overflow_cast-result c =
    let look = c.in-Some.ensures.lookup in
    let at = read_at c.args.model.now.preds c.as_slice.result.now c.args.pred c.in-Some.found.now c.as_slice.ensures look.3.0 look.1 in
    omega (arith, few_rules c.args.model.now c.requires c.args.pred c.in-Some.found.now at, c.len.ensures)

pub returns-in-Some : goal.returns-in-Some
returns-in-Some c = λ rule.
    let look = c.in-Some.ensures.lookup in
    let at = read_at c.args.model.now.preds c.as_slice.result.now c.args.pred c.in-Some.found.now c.as_slice.ensures look.3.0 look.1 in
    let counted = rules_counted c.args.model.now c.requires c.args.pred c.in-Some.found.now at rule in
    (λ below. counted.0 (omega (arith, below, c.len.ensures)), λ has. omega (arith, counted.1 has, c.len.ensures))

pub returns-in-None : goal.returns-in-None
returns-in-None c = λ rule.
    let look = c.in-None.ensures.lookup in
    no_rules c.args.model.now c.args.pred rule (subst (λ (list : List Pred). slice_get list c.args.pred ≡ None) c.as_slice.ensures (get_past c.as_slice.result.now c.args.pred look.3))
