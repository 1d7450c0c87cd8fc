-- What is gathered is the plan of the state.
use Rattle.plan_states.proofs.Placing.{plan_told}
use Rattle.plan_states.proofs.making.plan_of_ordered.Goals as goal

pub returns : goal.returns
returns g c = plan_told (g.V.View.model c.args.view.now) (g.V.View.decisions c.args.view.now) (g.V.View.state c.args.view.now) c.requires.settled c.in_ok-globals.globals.items c.add_tokens-added.new.lines.items c.new-lines.result.items c.add_tokens-added.result c.made.result
    c.new-lines.ensures.items c.in_ok-globals.ensures c.add_tokens-added.ensures c.made.ensures
