-- The object comes before the parameters, and they before the locals.
use Rattle.std.proofs.Common.{inl, inr, ◌⊎◌, Some}
use Rattle.eu_name.specs.declared.name.Part.TheVariants.{Object}
use Rattle.flaw_core.specs.declared.flaw.VarPlace.TheVariants as at
use Rattle.flaw_core.specs.Seeking.{IsValueAt, IsParameterFlaw, IsLocalFlawAt, IsValueFlawOf}
use Rattle.flaw_core.proofs.Finding.{found_left, finds_right}
use Rattle.flaw_core.proofs.Sorting.{object_before, parameter_before, object_untimed}
use Rattle.flaw_core.proofs.values.unbound_in_token.Goals as goal

pub unbound_at-requires-clause-untimed : goal.unbound_at-requires-clause-untimed
unbound_at-requires-clause-untimed g c = object_untimed (g.V.View.model c.args.view.now) (g.V.View.decisions c.args.view.now) (g.V.View.state c.args.view.now) c.requires.least.least.closed.consistent.is_state c.args.place

pub returns-in-Some : goal.returns-in-Some
returns-in-Some g c =
    found_left (g.V.View.model c.args.view.now) (g.V.View.decisions c.args.view.now) (g.V.View.state c.args.view.now) (IsValueAt (g.V.View.state c.args.view.now) (at.Part c.args.place Object)) (λ flaw. IsParameterFlaw (g.V.View.state c.args.view.now) c.args.place flaw ⊎ IsLocalFlawAt (g.V.View.state c.args.view.now) c.args.place flaw)
    (IsValueFlawOf (g.V.View.state c.args.view.now) c.args.place) (λ flaw sought has. sought) c.in-Some.flaw (λ flaw sought. inl sought) (object_before (g.V.View.state c.args.view.now) c.args.place) c.in-Some.ensures

pub returns-in-Some-unbound_parameter : goal.returns-in-Some-unbound_parameter
returns-in-Some-unbound_parameter g c =
    finds_right (g.V.View.model c.args.view.now) (g.V.View.decisions c.args.view.now) (g.V.View.state c.args.view.now) (IsValueAt (g.V.View.state c.args.view.now) (at.Part c.args.place Object)) (λ flaw. IsParameterFlaw (g.V.View.state c.args.view.now) c.args.place flaw ⊎ IsLocalFlawAt (g.V.View.state c.args.view.now) c.args.place flaw)
    (IsValueFlawOf (g.V.View.state c.args.view.now) c.args.place) (λ flaw sought has. sought) (Some c.in-Some-unbound_parameter.flaw) (λ flaw sought. inr sought) c.in_default.ensures
    (found_left (g.V.View.model c.args.view.now) (g.V.View.decisions c.args.view.now) (g.V.View.state c.args.view.now) (IsParameterFlaw (g.V.View.state c.args.view.now) c.args.place) (IsLocalFlawAt (g.V.View.state c.args.view.now) c.args.place) (λ flaw. IsParameterFlaw (g.V.View.state c.args.view.now) c.args.place flaw ⊎ IsLocalFlawAt (g.V.View.state c.args.view.now) c.args.place flaw)
    (λ flaw sought has. sought) c.in-Some-unbound_parameter.flaw (λ flaw sought. inl sought) (parameter_before (g.V.View.state c.args.view.now) c.args.place) c.in-Some-unbound_parameter.ensures)

pub returns : goal.returns
returns g c =
    finds_right (g.V.View.model c.args.view.now) (g.V.View.decisions c.args.view.now) (g.V.View.state c.args.view.now) (IsValueAt (g.V.View.state c.args.view.now) (at.Part c.args.place Object)) (λ flaw. IsParameterFlaw (g.V.View.state c.args.view.now) c.args.place flaw ⊎ IsLocalFlawAt (g.V.View.state c.args.view.now) c.args.place flaw)
    (IsValueFlawOf (g.V.View.state c.args.view.now) c.args.place) (λ flaw sought has. sought) _ (λ flaw sought. inr sought) c.in_default.ensures
    (finds_right (g.V.View.model c.args.view.now) (g.V.View.decisions c.args.view.now) (g.V.View.state c.args.view.now) (IsParameterFlaw (g.V.View.state c.args.view.now) c.args.place) (IsLocalFlawAt (g.V.View.state c.args.view.now) c.args.place) (λ flaw. IsParameterFlaw (g.V.View.state c.args.view.now) c.args.place flaw ⊎ IsLocalFlawAt (g.V.View.state c.args.view.now) c.args.place flaw)
    (λ flaw sought has. sought) _ (λ flaw sought. inr sought) c.in_default-unbound_parameter.ensures c.unbound_local.ensures)
