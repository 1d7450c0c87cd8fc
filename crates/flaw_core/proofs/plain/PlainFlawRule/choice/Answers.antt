-- The choices are those of the flaw at its places.
use Rattle.std.proofs.Common.{sym, subst}
use Rattle.flaw_core.specs.Rules.{IsLeastFor}
use Rattle.flaw_core.proofs.plain.PlainFlawRule.choice.Goals as goal

pub choose-requires-clause-least : goal.choose-requires-clause-least
choose-requires-clause-least g c = subst (λ m. IsLeastFor m (g.V.View.decisions c.args.view.now) (g.V.View.state c.args.view.now)) (sym c.requires.model) c.requires.least
