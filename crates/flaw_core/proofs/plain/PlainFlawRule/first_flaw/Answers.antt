-- What is found is the first flaw, and it has choices.
use Rattle.std.proofs.Common.{sym, subst}
use Rattle.flaw_core.specs.Rules.{IsLeastFor}
use Rattle.flaw_core.proofs.Existing.{first_told, choices_told}
use Rattle.flaw_core.proofs.plain.PlainFlawRule.first_flaw.Goals as goal

pub first_flaw-requires-clause-least : goal.first_flaw-requires-clause-least
first_flaw-requires-clause-least g c = subst (λ m. IsLeastFor m (g.V.View.decisions c.args.view.now) (g.V.View.state c.args.view.now)) (sym c.requires.model) c.requires.least

pub returns : goal.returns
returns g c =
    let first = first_told (g.V.View.model c.args.view.now) c.args.model.now c.requires.model (g.V.View.decisions c.args.view.now) (g.V.View.state c.args.view.now) c.first_flaw.result c.first_flaw.ensures in
    record { first = first; choices = choices_told (g.V.View.model c.args.view.now) c.args.model.now c.requires.model (g.V.View.decisions c.args.view.now) (g.V.View.state c.args.view.now) c.requires.least c.args._bound c.first_flaw.result first }
