-- The value of the number, ascending.
use Rattle.std.proofs.Common.{FitsSigned, w32, rules}
use Rattle.std.proofs.lemmas.Int.{to_z-of_z}
use Rattle.flaw_core.proofs.Valuing.{value_told, value_over}
use Rattle.flaw_core.proofs.choosing.value_choice.Goals as goal

pub returns-in_default : goal.returns-in_default
returns-in_default g c = λ name choices here are. absurd (c.in_default.ensures name are.domain here are.gives)

pub returns-in-Some-nth : goal.returns-in-Some-nth
returns-in-Some-nth g c =
    let fits : FitsSigned w32 c.in-Some-nth.value = search rules in
    value_told (g.V.View.model c.args.view.now) (g.V.View.state c.args.view.now) c.requires.least.closed.consistent.is_state c.args.at c.in-Some.domain.now c.args.number c.in-Some.ensures c.in-Some-nth.value _ (to_z-of_z w32 c.in-Some-nth.value fits) c.in-Some-nth.ensures.some

pub returns-in-None : goal.returns-in-None
returns-in-None g c = value_over (g.V.View.model c.args.view.now) (g.V.View.state c.args.view.now) c.requires.least.closed.consistent.is_state c.args.at c.in-Some.domain.now c.args.number c.in-Some.ensures c.in-None.ensures.none
