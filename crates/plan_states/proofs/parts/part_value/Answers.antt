-- Without a domain there is no value; else it is the domain's one value.
use Rattle.eu_name.specs.declared.name.VarName.TheVariants.{Token}
use Rattle.plan_defs.proofs.Telling.{value_told_at}
use Rattle.plan_states.proofs.parts.part_value.Goals as goal

pub returns-in_default : goal.returns-in_default
returns-in_default g c = λ token value at has. c.in_default.ensures token has.0 at has.1

pub returns : goal.returns
returns g c = value_told_at (g.V.View.state c.args.view.now) c.requires (λ token. Token token c.args.part) c.args.place c.in-Some.domain.now c.single.result c.in-Some.ensures c.single.ensures.some c.single.ensures.none
