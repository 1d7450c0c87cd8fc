use Rattle.std.proofs.Common.{sym, subst}
use Rattle.eu_name.specs.declared.name.Part.{Part}
use Rattle.model_typing.specs.Terms.{IsPartLine}
use Rattle.model_typing.proofs.lines.part_line.Goals as goal

pub returns-in-Object : goal.returns-in-Object
returns-in-Object c =
    subst (λ (p : Part). IsPartLine c.args.model.now c.args.pred p c.object_line.result) (sym c.in-Object.is) (λ kind. c.object_line.ensures)

pub returns-in-Param : goal.returns-in-Param
returns-in-Param c = subst (λ (p : Part). IsPartLine c.args.model.now c.args.pred p c.param_line.result) (sym c.in-Param.is) c.param_line.ensures
