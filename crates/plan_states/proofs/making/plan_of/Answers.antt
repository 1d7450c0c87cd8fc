-- Two tokens without an order are a flaw; what else is one is found with the lines.
use Rattle.std.proofs.Common.{refl, sym, subst}
use Rattle.plan_states.proofs.Placing.{settled_state, pair_flaw, answers}
use Rattle.plan_defs.specs.Unordered.{AreDecidedOnce}
use Rattle.timeline_core.proofs.Deciding.{settled_once}
use Rattle.plan_states.proofs.making.plan_of.Goals as goal

pub first_unordered-requires-clause-decided : goal.first_unordered-requires-clause-decided
first_unordered-requires-clause-decided g c = subst (λ m. AreDecidedOnce m (g.V.View.decisions c.args.view.now)) (sym c.requires.model) (settled_once c.args.model.now (g.V.View.decisions c.args.view.now) c.requires.settled)

pub plan_of_ordered-requires-clause-settled : goal.plan_of_ordered-requires-clause-settled
plan_of_ordered-requires-clause-settled g c = settled_state (g.V.View.model c.args.view.now) c.args.model.now (g.V.View.decisions c.args.view.now) (g.V.View.state c.args.view.now) c.requires.model c.requires.lawful c.requires.settled c.requires.least

pub returns-in-Some : goal.returns-in-Some
returns-in-Some g c = record {
  plan = tt;
  of_model = tt;
  flawless = tt;
  flawed = λ same.
      pair_flaw c.args.model.now (g.V.View.decisions c.args.view.now) (g.V.View.state c.args.view.now) (settled_state c.args.model.now c.args.model.now (g.V.View.decisions c.args.view.now) (g.V.View.state c.args.view.now) refl c.requires.lawful c.requires.settled c.requires.least)
      c.in-Some.field-0.0 c.in-Some.field-0.1 c.in-Some.ensures.is_pair;
}

pub returns-in-None : goal.returns-in-None
returns-in-None g c =
    let settled = settled_state c.args.model.now c.args.model.now (g.V.View.decisions c.args.view.now) (g.V.View.state c.args.view.now) refl c.requires.lawful c.requires.settled c.requires.least in
    let all = answers c.args.model.now (g.V.View.decisions c.args.view.now) (g.V.View.state c.args.view.now) settled (g.V.View.model c.args.view.now) c.plan_of_ordered.result c.requires.model c.in-None.ensures c.plan_of_ordered.ensures in
    record { plan = all.plan; of_model = all.of_model; flawless = all.flawless; flawed = all.flawed }
