-- The token's line is put behind the others.
use Rattle.plan_states.proofs.Placing.{after_step, own_put}
use Rattle.plan_states.proofs.tokens.add_own.Goals as goal

pub returns : goal.returns
returns g c = after_step _ _ _ c.push_item.result c.push_item.ensures (λ is. own_put (g.V.View.model c.args.view.now) (g.V.View.decisions c.args.view.now) (g.V.View.state c.args.view.now) c.requires.settled c.args.place c.in_ok-line.line c.args.lines.now.items c.push_item.new.list.items c.in_ok-line.ensures is)
