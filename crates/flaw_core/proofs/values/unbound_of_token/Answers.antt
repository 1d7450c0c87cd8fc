-- A rejected token has no flaw, nor has what isn't there.
use Rattle.flaw_core.proofs.Sorting.{rejected_value, part_unrejected, value_of_place, none_there}
use Rattle.eu_name.specs.declared.name.Part.TheVariants.{Object}
use Rattle.flaw_core.proofs.values.unbound_of_token.Goals as goal

pub unbound_in_token-requires-clause-kept : goal.unbound_in_token-requires-clause-kept
unbound_in_token-requires-clause-kept g c = part_unrejected (g.V.View.model c.args.view.now) (g.V.View.decisions c.args.view.now) (g.V.View.state c.args.view.now) c.requires.least.least.closed.consistent.is_state c.args.place Object c.if-is_rejected.ensures

pub returns-then-is_rejected : goal.returns-then-is_rejected
returns-then-is_rejected g c = rejected_value (g.V.View.model c.args.view.now) (g.V.View.decisions c.args.view.now) (g.V.View.state c.args.view.now) c.requires.least.least.closed.consistent.is_state c.args.place c.if-is_rejected.ensures

pub returns-in-None : goal.returns-in-None
returns-in-None g c = λ flaw sought has.
    let of = value_of_place (g.V.View.state c.args.view.now) c.args.place flaw sought in
    none_there (g.V.View.model c.args.view.now) c.args.model.now (g.V.View.state c.args.view.now) c.requires.model c.requires.least.least.closed.consistent.is_state c.args.place c.in-None.ensures of.1.0 of.1.1
