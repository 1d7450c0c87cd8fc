-- What is found, by names.
use Rattle.std.proofs.Common.{sym, subst}
use Rattle.flaw_core.specs.Rules.{IsLeastFor}
use Rattle.flaw_core.proofs.Existing.{choices_exist}
use Rattle.flaw_core.proofs.Numbering.{choice_named, chosen_some}
use Rattle.flaw_core.proofs.choosing.choose.Goals as goal

pub named-requires : goal.named-requires
named-requires g c =
    let least = subst (λ m. IsLeastFor m (g.V.View.decisions c.args.view.now) (g.V.View.state c.args.view.now)) c.requires.model c.requires.least in
    let made = choices_exist c.args.model.now (g.V.View.decisions c.args.view.now) (g.V.View.state c.args.view.now) least c.args.bound c.args.flaw c.requires.first in
    choice_named (g.V.View.state c.args.view.now) made.0 c.args.number c.in-Some.choice (c.in-Some.ensures made.0 made.1)

pub returns-in_ok-named-in-Some : goal.returns-in_ok-named-in-Some
returns-in_ok-named-in-Some g c = λ choices are. chosen_some (g.V.View.state c.args.view.now) choices c.args.number c.in-Some.choice _ (c.in-Some.ensures choices are) c.in_ok-named-in-Some.ensures

pub returns-in-None : goal.returns-in-None
returns-in-None g c = λ choices are. sym (c.in-None.ensures choices are)
