use Rattle.std.proofs.Common.{sym, subst}
use Rattle.eu_name.specs.declared.name.VarName.TheVariants.{Local}
use Rattle.model_core.specs.declared.variable.Base.{Base}
use Rattle.model_core.specs.declared.model.Model.{Model}
use Rattle.model_core.specs.Variables.{HasBase}
use Rattle.plan_resolve.proofs.Naming.{local_there}
use Rattle.plan_resolve.proofs.subjects.kind_of_local.Goals as goal

pub local_kind-requires : goal.local_kind-requires
local_kind-requires c =
    subst (λ (model : Model). (base : Base) × HasBase model (Local c.in-Local.token c.in-Local.rule c.in-Local.number) base) (sym c.model.ensures)
    (local_there c.args.model.now c.args.name.now c.in-Local.token c.in-Local.rule c.in-Local.number c.in-Local.is c.requires)
