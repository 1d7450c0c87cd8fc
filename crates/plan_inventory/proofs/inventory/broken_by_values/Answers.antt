use Rattle.plan_defs.specs.declared.plan.Clause.TheVariants.{V1, V2}
use Rattle.plan_inventory.specs.Verdicts.{KeptBelow}
use Rattle.plan_inventory.proofs.Chaining.{none_before, one_kept, first_broken}
use Rattle.plan_inventory.proofs.inventory.broken_by_values.Goals as goal

pub returns-in-Some : goal.returns-in-Some
returns-in-Some c = first_broken c.args.model.now c.args.plan.now V1 c.in-Some.place (none_before c.args.model.now c.args.plan.now) c.in-Some.ensures

pub returns-in-Some-broken_root : goal.returns-in-Some-broken_root
returns-in-Some-broken_root c =
    let one : KeptBelow c.args.model.now c.args.plan.now 1 = one_kept c.args.model.now c.args.plan.now V1 (none_before c.args.model.now c.args.plan.now) c.in_default.ensures in
    first_broken c.args.model.now c.args.plan.now V2 c.in-Some-broken_root.place one c.in-Some-broken_root.ensures
