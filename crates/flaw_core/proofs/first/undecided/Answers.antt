-- The first that is found is the first of all.
use Rattle.std.proofs.Common.{ℕ, arith}
use Rattle.eu_name.proofs.Members.{get_below}
use Rattle.flaw_core.specs.declared.flaw.Flaw.TheVariants.{Token}
use Rattle.flaw_core.specs.Seeking.{IsTokenFlaw}
use Rattle.flaw_core.proofs.Finding.{found_at, none_more, none_all, found_same, none_same}
use Rattle.flaw_core.proofs.Sorting.{IsUndecidedAt, undecided_in_order, undecided_are, undecided_is, undecided_found, undecided_none}
use Rattle.flaw_core.proofs.first.undecided.Goals as goal

pub returns-then-is_undecided : goal.returns-then-is_undecided
returns-then-is_undecided g c =
    found_same (g.V.View.model c.args.view.now) (g.V.View.decisions c.args.view.now) (g.V.View.state c.args.view.now) (λ flaw. (place : ℕ) × IsUndecidedAt (g.V.View.state c.args.view.now) place flaw) IsTokenFlaw (Token c.loop-place.place) (undecided_is (g.V.View.model c.args.view.now) (g.V.View.decisions c.args.view.now) (g.V.View.state c.args.view.now) c.requires.least.closed.consistent.is_state) (undecided_are (g.V.View.model c.args.view.now) (g.V.View.decisions c.args.view.now) (g.V.View.state c.args.view.now) c.requires.least.closed.consistent.is_state)
    (found_at (g.V.View.model c.args.view.now) (g.V.View.decisions c.args.view.now) (g.V.View.state c.args.view.now) (IsUndecidedAt (g.V.View.state c.args.view.now)) c.loop-place.place (Token c.loop-place.place) (undecided_in_order (g.V.View.state c.args.view.now) c.requires.least.closed.consistent.is_state.order) c.loop-place.invariant
    (undecided_found (g.V.View.model c.args.view.now) (g.V.View.decisions c.args.view.now) (g.V.View.state c.args.view.now) c.requires.least.closed.consistent.is_state c.loop-place.place c.if-is_undecided.ensures))

pub loop-place-preserved : goal.loop-place-preserved
loop-place-preserved g c =
    none_more (g.V.View.model c.args.view.now) (g.V.View.decisions c.args.view.now) (g.V.View.state c.args.view.now) (IsUndecidedAt (g.V.View.state c.args.view.now)) c.loop-place.place c.loop-place.invariant (undecided_none (g.V.View.model c.args.view.now) (g.V.View.decisions c.args.view.now) (g.V.View.state c.args.view.now) c.requires.least.closed.consistent.is_state c.loop-place.place c.if-is_undecided.ensures)

pub returns : goal.returns
returns g c =
    none_same (g.V.View.model c.args.view.now) (g.V.View.decisions c.args.view.now) (g.V.View.state c.args.view.now) (λ flaw. (place : ℕ) × IsUndecidedAt (g.V.View.state c.args.view.now) place flaw) IsTokenFlaw (undecided_are (g.V.View.model c.args.view.now) (g.V.View.decisions c.args.view.now) (g.V.View.state c.args.view.now) c.requires.least.closed.consistent.is_state)
    (none_all (g.V.View.model c.args.view.now) (g.V.View.decisions c.args.view.now) (g.V.View.state c.args.view.now) (IsUndecidedAt (g.V.View.state c.args.view.now)) c.loop-place.place (λ place flaw sought has. omega (arith, get_below ((g.V.View.state c.args.view.now)).tokens place sought.0 sought.1, c.loop-place.auto.place-end, c.count-place-end.ensures)) c.loop-place.invariant)
