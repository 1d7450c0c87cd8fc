-- A token of which nothing is decided is a flaw.
use Rattle.plan_states.proofs.Placing.{undecided}
use Rattle.plan_states.proofs.tokens.own_line.Goals as goal

pub returns-in-Some-Inactive : goal.returns-in-Some-Inactive
returns-in-Some-Inactive g c = λ same. undecided (g.V.View.model c.args.view.now) (g.V.View.decisions c.args.view.now) (g.V.View.state c.args.view.now) c.requires.settled c.args.place c.in-Some-Inactive.field-0 c.in-Some-Inactive.field-0-is c.in-Some-Inactive.ensures
