use Rattle.std.proofs.Common.{subst, arith}
use Rattle.model_core.proofs.Items.{item_within}
use Rattle.plan_defs.proofs.Telling.{one_at}
use Rattle.eu_name.specs.declared.name.TokenName.{TokenName}
use Rattle.model_core.specs.TokenStates.{HasTokenState}
use Rattle.session_replies.proofs.places.state_of.Goals as goal

pub unreachable-requires : goal.unreachable-requires
unreachable-requires g c = omega (arith, c.in-None.ensures, item_within (g.V.View.state c.args.view.now).tokens c.args.place c.requires.0 c.requires.1)

pub returns : goal.returns
returns g c = λ token at.
    let told = c.in-Some.ensures in
    subst (λ (t : TokenName). HasTokenState (g.V.View.model c.args.view.now) (g.V.View.state c.args.view.now) (g.V.View.decisions c.args.view.now) t c.in-Some.state)
    (one_at (g.V.View.state c.args.view.now) c.args.place told.0 token told.1 at) told.2
