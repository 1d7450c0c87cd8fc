-- The first that is found is the first of all.
use Rattle.std.proofs.Common.{ℕ, arith}
use Rattle.flaw_core.specs.Seeking.{IsTimeFlawOf, IsTimeFlaw}
use Rattle.flaw_core.proofs.Finding.{found_at, none_more, none_all, found_same, none_same}
use Rattle.flaw_core.proofs.Sorting.{token_times_before, time_place_below, times_are, of_token_is_time}
use Rattle.flaw_core.proofs.times.unbound_time.Goals as goal

pub returns-in-Some : goal.returns-in-Some
returns-in-Some g c =
    found_same (g.V.View.model c.args.view.now) (g.V.View.decisions c.args.view.now) (g.V.View.state c.args.view.now) (λ flaw. (place : ℕ) × IsTimeFlawOf (g.V.View.state c.args.view.now) place flaw) IsTimeFlaw c.in-Some.flaw (of_token_is_time (g.V.View.model c.args.view.now) (g.V.View.decisions c.args.view.now) (g.V.View.state c.args.view.now) c.requires.least.closed.consistent.is_state) (times_are (g.V.View.model c.args.view.now) (g.V.View.decisions c.args.view.now) (g.V.View.state c.args.view.now) c.requires.least.closed.consistent.is_state)
    (found_at (g.V.View.model c.args.view.now) (g.V.View.decisions c.args.view.now) (g.V.View.state c.args.view.now) (IsTimeFlawOf (g.V.View.state c.args.view.now)) c.loop-place.place c.in-Some.flaw (token_times_before (g.V.View.state c.args.view.now) c.requires.least.closed.consistent.is_state.order) c.loop-place.invariant c.in-Some.ensures)

pub loop-place-preserved : goal.loop-place-preserved
loop-place-preserved g c = none_more (g.V.View.model c.args.view.now) (g.V.View.decisions c.args.view.now) (g.V.View.state c.args.view.now) (IsTimeFlawOf (g.V.View.state c.args.view.now)) c.loop-place.place c.loop-place.invariant c.in_default.ensures

pub returns : goal.returns
returns g c =
    none_same (g.V.View.model c.args.view.now) (g.V.View.decisions c.args.view.now) (g.V.View.state c.args.view.now) (λ flaw. (place : ℕ) × IsTimeFlawOf (g.V.View.state c.args.view.now) place flaw) IsTimeFlaw (times_are (g.V.View.model c.args.view.now) (g.V.View.decisions c.args.view.now) (g.V.View.state c.args.view.now) c.requires.least.closed.consistent.is_state)
    (none_all (g.V.View.model c.args.view.now) (g.V.View.decisions c.args.view.now) (g.V.View.state c.args.view.now) (IsTimeFlawOf (g.V.View.state c.args.view.now)) c.loop-place.place (λ place flaw sought has. omega (arith, time_place_below (g.V.View.model c.args.view.now) (g.V.View.decisions c.args.view.now) (g.V.View.state c.args.view.now) c.requires.least.closed.consistent.is_state place flaw sought, c.loop-place.auto.place-end, c.count-place-end.ensures)) c.loop-place.invariant)
