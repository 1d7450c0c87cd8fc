-- Without a domain there is no value; else it is the domain's one value.
use Rattle.eu_name.specs.declared.name.VarName.TheVariants.{Global}
use Rattle.plan_defs.proofs.Telling.{value_told}
use Rattle.plan_states.proofs.making.global_value.Goals as goal

pub returns-in_default : goal.returns-in_default
returns-in_default g c = λ value has. c.in_default.ensures has.0 has.1

pub returns : goal.returns
returns g c = value_told (g.V.View.state c.args.view.now) c.requires (Global c.args.number) c.in-Some.domain.now c.single.result c.in-Some.ensures c.single.ensures.some c.single.ensures.none
