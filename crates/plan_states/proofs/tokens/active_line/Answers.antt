-- The token's values are those of its parts, or one of these is a flaw.
use Rattle.std.proofs.Common.{sym, subst}
use Rattle.plan_defs.specs.Surveying.{AreFirstValues}
use Rattle.plan_states.proofs.Placing.{active_open}
use Rattle.plan_defs.proofs.Stating.{states_active}
use Rattle.plan_states.proofs.tokens.active_line.Goals as goal

pub returns-in-Ok : goal.returns-in-Ok
returns-in-Ok g c =
    let first = subst (λ list. AreFirstValues (g.V.View.state c.args.view.now) c.args.place c.args.parts list) (sym c.from_vec.ensures) c.in-Ok.ensures in
    states_active (g.V.View.model c.args.view.now) (g.V.View.decisions c.args.view.now) (g.V.View.state c.args.view.now) c.requires.settled c.args.place c.args.parts c.args.fact c.from_vec.result c.in_ok-name.name c.requires.parts first c.in_ok-name.ensures.copied c.requires.at

pub returns-in-Err : goal.returns-in-Err
returns-in-Err g c = λ fault. active_open (g.V.View.model c.args.view.now) (g.V.View.decisions c.args.view.now) (g.V.View.state c.args.view.now) c.requires.settled c.args.place c.args.parts c.args.fact c.requires.parts c.requires.at (c.in-Err.ensures fault)
