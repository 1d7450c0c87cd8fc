-- The start comes before the duration.
use Rattle.std.proofs.Common.{inl, inr}
use Rattle.eu_name.specs.declared.name.Part.TheVariants.{Start, Duration}
use Rattle.flaw_core.specs.declared.flaw.VarPlace.TheVariants as at
use Rattle.flaw_core.specs.Seeking.{IsTimeAt, IsTimeFlawOf}
use Rattle.flaw_core.proofs.Finding.{found_left, finds_right}
use Rattle.flaw_core.proofs.Sorting.{start_before, start_timed, duration_timed, part_unrejected, token_kept}
use Rattle.flaw_core.proofs.times.unbound_in_token.Goals as goal

pub unbound_at-requires-clause-kept : goal.unbound_at-requires-clause-kept
unbound_at-requires-clause-kept g c = part_unrejected (g.V.View.model c.args.view.now) (g.V.View.decisions c.args.view.now) (g.V.View.state c.args.view.now) c.requires.least.least.closed.consistent.is_state c.args.place Start (token_kept (g.V.View.model c.args.view.now) (g.V.View.decisions c.args.view.now) (g.V.View.state c.args.view.now) c.requires.least.least.closed.consistent.is_state c.args.place c.requires.kept)

pub unbound_at-requires-clause-timed : goal.unbound_at-requires-clause-timed
unbound_at-requires-clause-timed g c = start_timed (g.V.View.model c.args.view.now) (g.V.View.decisions c.args.view.now) (g.V.View.state c.args.view.now) c.requires.least.least.closed.consistent.is_state c.args.place

pub unbound_at-requires-2-clause-kept : goal.unbound_at-requires-2-clause-kept
unbound_at-requires-2-clause-kept g c = part_unrejected (g.V.View.model c.args.view.now) (g.V.View.decisions c.args.view.now) (g.V.View.state c.args.view.now) c.requires.least.least.closed.consistent.is_state c.args.place Duration (token_kept (g.V.View.model c.args.view.now) (g.V.View.decisions c.args.view.now) (g.V.View.state c.args.view.now) c.requires.least.least.closed.consistent.is_state c.args.place c.requires.kept)

pub unbound_at-requires-2-clause-timed : goal.unbound_at-requires-2-clause-timed
unbound_at-requires-2-clause-timed g c = duration_timed (g.V.View.model c.args.view.now) (g.V.View.decisions c.args.view.now) (g.V.View.state c.args.view.now) c.requires.least.least.closed.consistent.is_state c.args.place

pub returns-in-Some : goal.returns-in-Some
returns-in-Some g c =
    found_left (g.V.View.model c.args.view.now) (g.V.View.decisions c.args.view.now) (g.V.View.state c.args.view.now) (IsTimeAt (g.V.View.state c.args.view.now) (at.Part c.args.place Start)) (IsTimeAt (g.V.View.state c.args.view.now) (at.Part c.args.place Duration)) (IsTimeFlawOf (g.V.View.state c.args.view.now) c.args.place)
    (λ flaw sought has. sought) c.in-Some.flaw (λ flaw sought. inl sought) (start_before (g.V.View.state c.args.view.now) c.args.place) c.in-Some.ensures

pub returns : goal.returns
returns g c =
    finds_right (g.V.View.model c.args.view.now) (g.V.View.decisions c.args.view.now) (g.V.View.state c.args.view.now) (IsTimeAt (g.V.View.state c.args.view.now) (at.Part c.args.place Start)) (IsTimeAt (g.V.View.state c.args.view.now) (at.Part c.args.place Duration)) (IsTimeFlawOf (g.V.View.state c.args.view.now) c.args.place)
    (λ flaw sought has. sought) _ (λ flaw sought. inr sought) c.in_default.ensures c.unbound_at-2.ensures
