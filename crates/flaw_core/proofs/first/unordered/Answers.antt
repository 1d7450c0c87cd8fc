-- The first pair by places is the first by names.
use Rattle.std.proofs.Common.{sym, subst}
use Rattle.timeline_core.proofs.Deciding.{settled_once}
use Rattle.plan_defs.specs.Unordered.{IsFirstPair, IsPairAt}
use Rattle.flaw_core.proofs.Sorting.{pair_found, pair_none}
use Rattle.flaw_core.proofs.first.unordered.Goals as goal

pub first_unordered-requires-clause-order : goal.first_unordered-requires-clause-order
first_unordered-requires-clause-order g c = c.requires.least.least.closed.consistent.is_state.order

pub first_unordered-requires-clause-decided : goal.first_unordered-requires-clause-decided
first_unordered-requires-clause-decided g c = settled_once (g.V.View.model c.args.view.now) (g.V.View.decisions c.args.view.now) c.requires.least.settled

pub returns-in-Some : goal.returns-in-Some
returns-in-Some g c = pair_found (g.V.View.model c.args.view.now) (g.V.View.decisions c.args.view.now) (g.V.View.state c.args.view.now) c.requires.least.least.closed.consistent.is_state c.in-Some.one c.in-Some.other (subst (λ m. IsFirstPair m (g.V.View.decisions c.args.view.now) (g.V.View.state c.args.view.now) c.in-Some.one c.in-Some.other) (sym c.requires.model) c.in-Some.ensures)

pub returns-in-None : goal.returns-in-None
returns-in-None g c = pair_none (g.V.View.model c.args.view.now) (g.V.View.decisions c.args.view.now) (g.V.View.state c.args.view.now) c.requires.least.least.closed.consistent.is_state (λ m n pair. c.in-None.ensures m n (subst (λ k. IsPairAt k (g.V.View.decisions c.args.view.now) (g.V.View.state c.args.view.now) m n) c.requires.model pair))
