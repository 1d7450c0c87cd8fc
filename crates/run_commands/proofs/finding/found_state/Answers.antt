use Rattle.law_states.proofs.Founding.{plan_is_valid}
use Rattle.run_commands.proofs.Found.{state_told}
use Rattle.run_commands.proofs.finding.found_state.Goals as goal

pub found_plan-requires-clause-valid : goal.found_plan-requires-clause-valid
found_plan-requires-clause-valid g c =
    (plan_is_valid c.args.model.now (g.V.View.decisions c.args.view.now) (g.V.View.state c.args.view.now) c.in-Ok.plan c.requires.least.lawful
    c.requires.least.settled c.requires.least.least c.requires.flawless c.in-Ok.ensures.plan).0

pub returns-in-Ok : goal.returns-in-Ok
returns-in-Ok g c =
    state_told c.args.visits c.args.model.now (g.V.View.decisions c.args.view.now) (g.V.View.state c.args.view.now) c.in-Ok.plan c.found_plan.result
    c.in-Ok.ensures.plan (plan_is_valid c.args.model.now (g.V.View.decisions c.args.view.now) (g.V.View.state c.args.view.now) c.in-Ok.plan
    c.requires.least.lawful c.requires.least.settled c.requires.least.least c.requires.flawless c.in-Ok.ensures.plan).0 c.found_plan.ensures
