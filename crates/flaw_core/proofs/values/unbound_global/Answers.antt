-- The first that is found is the first of all.
use Rattle.std.proofs.Common.{arith}
use Rattle.flaw_core.specs.declared.flaw.VarPlace.TheVariants as at
use Rattle.flaw_core.specs.Seeking.{IsValueAt}
use Rattle.flaw_core.proofs.Finding.{found_at, none_more, none_all}
use Rattle.std.proofs.Common.{length, ap}
use Rattle.model_core.specs.declared.model.Model.{Model}
use Rattle.flaw_core.proofs.Sorting.{globals_before, global_below, global_unrejected, global_untimed}
use Rattle.flaw_core.proofs.values.unbound_global.Goals as goal

pub unbound_at-requires-clause-kept : goal.unbound_at-requires-clause-kept
unbound_at-requires-clause-kept g c = global_unrejected (g.V.View.model c.args.view.now) (g.V.View.decisions c.args.view.now) (g.V.View.state c.args.view.now) c.requires.least.least.closed.consistent.is_state c.loop-number.number

pub unbound_at-requires-clause-untimed : goal.unbound_at-requires-clause-untimed
unbound_at-requires-clause-untimed g c = global_untimed (g.V.View.model c.args.view.now) (g.V.View.decisions c.args.view.now) (g.V.View.state c.args.view.now) c.requires.least.least.closed.consistent.is_state c.loop-number.number

pub returns-in-Some : goal.returns-in-Some
returns-in-Some g c = found_at (g.V.View.model c.args.view.now) (g.V.View.decisions c.args.view.now) (g.V.View.state c.args.view.now) (λ number. IsValueAt (g.V.View.state c.args.view.now) (at.Global number)) c.loop-number.number c.in-Some.flaw (globals_before (g.V.View.state c.args.view.now)) c.loop-number.invariant c.in-Some.ensures

pub loop-number-preserved : goal.loop-number-preserved
loop-number-preserved g c = none_more (g.V.View.model c.args.view.now) (g.V.View.decisions c.args.view.now) (g.V.View.state c.args.view.now) (λ number. IsValueAt (g.V.View.state c.args.view.now) (at.Global number)) c.loop-number.number c.loop-number.invariant c.in_default.ensures

pub returns : goal.returns
returns g c = none_all (g.V.View.model c.args.view.now) (g.V.View.decisions c.args.view.now) (g.V.View.state c.args.view.now) (λ number. IsValueAt (g.V.View.state c.args.view.now) (at.Global number)) c.loop-number.number (λ number flaw sought has. omega (arith, global_below (g.V.View.model c.args.view.now) (g.V.View.decisions c.args.view.now) (g.V.View.state c.args.view.now) c.requires.least.least.closed.consistent.is_state number flaw sought has, c.loop-number.auto.number-end, c.len-number-end.ensures, ap (λ (m : Model). length m.problem.globals) c.requires.model)) c.loop-number.invariant
