use Rattle.std.proofs.Common.{ap, ◌∙◌}
use Rattle.eu_name.proofs.Members.{get_same, get_below}
use Rattle.plan_defs.specs.Plans.{order_name}
use Rattle.plan_values.specs.Keys.{key_token}
use Rattle.plan_values.proofs.Naming.{not_activated}
use Rattle.plan_inventory.proofs.Sweeping.{found_active, found_idle}
use Rattle.plan_inventory.proofs.asked.activated.Goals as goal

pub line_at-requires : goal.line_at-requires
line_at-requires c = get_below c.args.plan.now.lines c.in-Some.place c.in-Some.ensures.0 c.in-Some.ensures.1

pub returns-in-Some-activated_by : goal.returns-in-Some-activated_by
returns-in-Some-activated_by c =
    let same = get_same c.args.plan.now.lines c.in-Some.place c.line_at.result.now c.in-Some.ensures.0 c.line_at.ensures c.in-Some.ensures.1 in
    found_active c.args.plan.now c.requires (key_token c.args.token) c.in-Some.place c.line_at.result.now c.line_at.ensures (ap order_name same ∙ c.in-Some.ensures.2) c.in-Some-activated_by.found.now
    c.in-Some-activated_by.ensures

pub returns-in-None-activated_by : goal.returns-in-None-activated_by
returns-in-None-activated_by c =
    let same = get_same c.args.plan.now.lines c.in-Some.place c.line_at.result.now c.in-Some.ensures.0 c.line_at.ensures c.in-Some.ensures.1 in
    found_idle c.args.plan.now c.requires (key_token c.args.token) c.in-Some.place c.line_at.result.now c.line_at.ensures (ap order_name same ∙ c.in-Some.ensures.2) c.in-None-activated_by.ensures

pub returns-in-None : goal.returns-in-None
returns-in-None c = not_activated c.args.plan.now (key_token c.args.token) c.in-None.ensures
