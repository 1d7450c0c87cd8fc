-- The first that is found is the first of all.
use Rattle.std.proofs.Common.{arith}
use Rattle.flaw_core.specs.Seeking.{IsValueFlawOf}
use Rattle.flaw_core.proofs.Finding.{found_at, none_more, none_all}
use Rattle.flaw_core.proofs.Sorting.{tokens_before, value_place_below}
use Rattle.flaw_core.proofs.values.unbound_of_tokens.Goals as goal

pub returns-in-Some : goal.returns-in-Some
returns-in-Some g c = found_at (g.V.View.model c.args.view.now) (g.V.View.decisions c.args.view.now) (g.V.View.state c.args.view.now) (IsValueFlawOf (g.V.View.state c.args.view.now)) c.loop-place.place c.in-Some.flaw (tokens_before (g.V.View.state c.args.view.now) c.requires.least.least.closed.consistent.is_state.order) c.loop-place.invariant c.in-Some.ensures

pub loop-place-preserved : goal.loop-place-preserved
loop-place-preserved g c = none_more (g.V.View.model c.args.view.now) (g.V.View.decisions c.args.view.now) (g.V.View.state c.args.view.now) (IsValueFlawOf (g.V.View.state c.args.view.now)) c.loop-place.place c.loop-place.invariant c.in_default.ensures

pub returns : goal.returns
returns g c = none_all (g.V.View.model c.args.view.now) (g.V.View.decisions c.args.view.now) (g.V.View.state c.args.view.now) (IsValueFlawOf (g.V.View.state c.args.view.now)) c.loop-place.place (λ place flaw sought has. omega (arith, value_place_below (g.V.View.model c.args.view.now) (g.V.View.decisions c.args.view.now) (g.V.View.state c.args.view.now) c.requires.least.least.closed.consistent.is_state place flaw sought, c.loop-place.auto.place-end, c.count-place-end.ensures)) c.loop-place.invariant
