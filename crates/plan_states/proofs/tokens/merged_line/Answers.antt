-- The token is merged, or one of its parts is a flaw.
use Rattle.plan_states.proofs.Placing.{merged_open, merged_said}
use Rattle.plan_states.proofs.tokens.merged_line.Goals as goal

pub returns-in-Ok : goal.returns-in-Ok
returns-in-Ok g c = merged_said (g.V.View.model c.args.view.now) (g.V.View.decisions c.args.view.now) (g.V.View.state c.args.view.now) c.requires.settled c.args.place c.args.parts c.args.target c.in-Ok._values.items c.merged_names.result c.requires.parts c.in-Ok.ensures c.requires.at
    c.merged_names.ensures.line c.merged_names.ensures.memory

pub returns-in-Err : goal.returns-in-Err
returns-in-Err g c = λ fault. merged_open (g.V.View.model c.args.view.now) (g.V.View.decisions c.args.view.now) (g.V.View.state c.args.view.now) c.requires.settled c.args.place c.args.parts c.args.target c.requires.parts c.requires.at (c.in-Err.ensures fault)
