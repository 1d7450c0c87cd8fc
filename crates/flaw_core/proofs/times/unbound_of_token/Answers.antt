-- A rejected token has no flaw.
use Rattle.eu_name.specs.declared.name.Part.TheVariants.{Object}
use Rattle.flaw_core.proofs.Sorting.{rejected_time, part_unrejected}
use Rattle.flaw_core.proofs.times.unbound_of_token.Goals as goal

pub unbound_in_token-requires-clause-kept : goal.unbound_in_token-requires-clause-kept
unbound_in_token-requires-clause-kept g c = part_unrejected (g.V.View.model c.args.view.now) (g.V.View.decisions c.args.view.now) (g.V.View.state c.args.view.now) c.requires.least.closed.consistent.is_state c.args.place Object c.if-is_rejected.ensures

pub returns-then-is_rejected : goal.returns-then-is_rejected
returns-then-is_rejected g c = rejected_time (g.V.View.model c.args.view.now) (g.V.View.decisions c.args.view.now) (g.V.View.state c.args.view.now) c.requires.least.closed.consistent.is_state c.args.place c.if-is_rejected.ensures
