-- The first that is found is the first of all.
use Rattle.std.proofs.Common.{arith}
use Rattle.flaw_core.specs.declared.flaw.VarPlace.TheVariants as at
use Rattle.eu_name.specs.declared.name.Part.TheVariants.{Param}
use Rattle.flaw_core.specs.Seeking.{IsValueAt}
use Rattle.flaw_core.proofs.Finding.{found_at, none_more, none_all}
use Rattle.std.proofs.Common.{◌<◌}
use Rattle.flaw_core.proofs.Sorting.{parameters_before, parameter_counted, part_unrejected, token_kept, parameter_untimed}
use Rattle.flaw_core.proofs.values.unbound_parameter.Goals as goal

pub unbound_at-requires-clause-kept : goal.unbound_at-requires-clause-kept
unbound_at-requires-clause-kept g c = part_unrejected (g.V.View.model c.args.view.now) (g.V.View.decisions c.args.view.now) (g.V.View.state c.args.view.now) c.requires.least.least.closed.consistent.is_state c.args.place (Param c.loop-number.number) (token_kept (g.V.View.model c.args.view.now) (g.V.View.decisions c.args.view.now) (g.V.View.state c.args.view.now) c.requires.least.least.closed.consistent.is_state c.args.place c.requires.kept)

pub unbound_at-requires-clause-untimed : goal.unbound_at-requires-clause-untimed
unbound_at-requires-clause-untimed g c = parameter_untimed (g.V.View.model c.args.view.now) (g.V.View.decisions c.args.view.now) (g.V.View.state c.args.view.now) c.requires.least.least.closed.consistent.is_state c.args.place c.loop-number.number

pub returns-in-Some : goal.returns-in-Some
returns-in-Some g c = found_at (g.V.View.model c.args.view.now) (g.V.View.decisions c.args.view.now) (g.V.View.state c.args.view.now) (λ number. IsValueAt (g.V.View.state c.args.view.now) (at.Part c.args.place (Param number))) c.loop-number.number c.in-Some.flaw (parameters_before (g.V.View.state c.args.view.now) c.args.place) c.loop-number.invariant c.in-Some.ensures

pub loop-number-preserved : goal.loop-number-preserved
loop-number-preserved g c = none_more (g.V.View.model c.args.view.now) (g.V.View.decisions c.args.view.now) (g.V.View.state c.args.view.now) (λ number. IsValueAt (g.V.View.state c.args.view.now) (at.Part c.args.place (Param number))) c.loop-number.number c.loop-number.invariant c.in_default.ensures

pub returns : goal.returns
returns g c = none_all (g.V.View.model c.args.view.now) (g.V.View.decisions c.args.view.now) (g.V.View.state c.args.view.now) (λ number. IsValueAt (g.V.View.state c.args.view.now) (at.Part c.args.place (Param number))) c.loop-number.number (λ number flaw sought has. let below : number < c.count_params-number-end.result = parameter_counted (g.V.View.model c.args.view.now) c.args.model.now (g.V.View.decisions c.args.view.now) (g.V.View.state c.args.view.now) c.requires.model c.requires.least.least.closed.consistent.is_state c.args.place c.args.pred c.count_params-number-end.result c.requires.at c.count_params-number-end.ensures number flaw sought has in omega (arith, below, c.loop-number.auto.number-end)) c.loop-number.invariant
