-- An active token with a role and with its numbers is an actor.
use Rattle.std.proofs.Common.{sym, subst}
use Rattle.eu_name.specs.declared.name.TokenName.{TokenName}
use Rattle.model_core.specs.Views.{IsTokenAt}
use Rattle.db_resources.specs.Actors.{HasRole}
use Rattle.db_resources.proofs.Acting.{actor_told, has_role}
use Rattle.db_resources.proofs.actor.actor_at.Goals as goal

pub returns-in_default : goal.returns-in_default
returns-in_default g c = λ token actor at is.
    c.in_default.ensures token actor.kind at
    (subst (λ m. HasRole m token actor.kind) c.requires.model
    (has_role (g.V.View.model c.args.view.now) (g.V.View.decisions c.args.view.now) (g.V.View.state c.args.view.now) token actor is))

pub returns : goal.returns
returns g c =
    let state = g.V.View.state c.args.view.now in
    actor_told (g.V.View.model c.args.view.now) (g.V.View.decisions c.args.view.now) state c.args.place c.in-Some.kind c.measured.result
    c.if-not-is_active.ensures
    (subst (λ m. (token : TokenName) × IsTokenAt state c.args.place token × HasRole m token c.in-Some.kind) (sym c.requires.model) c.in-Some.ensures)
    c.measured.ensures
