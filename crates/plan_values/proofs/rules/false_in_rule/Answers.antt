use Rattle.std.proofs.Common.{[], ap, subst, All, arith}
use Rattle.model_core.specs.Entries.{Entries}
use Rattle.model_core.specs.Lawful.{item_count}
use Rattle.model_core.specs.Numbers.{items_from}
use Rattle.plan_defs.specs.Terms.{InRule}
use Rattle.plan_values.specs.Walks.{FirstFails, IsTruePlaced}
use Rattle.plan_values.proofs.Few.{few_of}
use Rattle.plan_values.proofs.Ruling.{all_true, first_false}
use Rattle.plan_values.proofs.rules.false_in_rule.Goals as goal

pub false_among-requires-clause-few : goal.false_among-requires-clause-few
false_among-requires-clause-few c =
    omega (arith, (few_of c.args.model.now c.args.token.now c.args.number c.args.rule.now c.requires.lawful c.requires.has_rule).items, ap item_count c.contents.ensures)

pub returns-in-Ok : goal.returns-in-Ok
returns-in-Ok c =
    let top = c.args.rule.now.top in
    let P = IsTruePlaced c.args.model.now c.args.plan.now (InRule c.args.token.now c.args.number) top in
    all_true c.args.model.now c.args.token.now c.args.number c.args.plan.now c.args.rule.now c.requires.has_rule
    (subst (λ (t : Entries). All P (items_from [] 0 t)) c.contents.ensures (c.in-Ok.ensures.found top [] c.contents.ensures))

pub returns-in-Err : goal.returns-in-Err
returns-in-Err c =
    let top = c.args.rule.now.top in
    let P = IsTruePlaced c.args.model.now c.args.plan.now (InRule c.args.token.now c.args.number) top in
    first_false c.args.model.now c.args.token.now c.args.number c.args.plan.now c.args.rule.now c.requires.has_rule c.in-Err.found c.requires.activated
    (subst (λ (t : Entries). FirstFails P 0 (items_from [] 0 t) c.in-Err.found) c.contents.ensures (c.in-Err.ensures.found top [] c.contents.ensures))
