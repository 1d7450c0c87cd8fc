use Rattle.std.proofs.Common.{sym, subst}
use Rattle.eu_name.specs.declared.name.VarName.{VarName}
use Rattle.model_core.specs.declared.variable.Base.{Base}
use Rattle.model_core.specs.Kinds.{IsVariableOfKind}
use Rattle.model_core.specs.Variables.{HasBase}
use Rattle.model_core.proofs.Kinding.{part_has_kind, part_variable_kind}
use Rattle.model_core.proofs.model.Model.kind_of.Goals as goal

pub part_kind-requires : goal.part_kind-requires
part_kind-requires c =
    part_has_kind c.args.self.now c.in-Token.token c.in-Token.part c.pred_of.result
    (subst (λ (n : VarName). (base : Base) × HasBase c.args.self.now n base) c.in-Token.is c.requires) c.pred_of.ensures

pub returns-in-Token : goal.returns-in-Token
returns-in-Token c =
    subst (IsVariableOfKind c.args.self.now c.part_kind.result) (sym c.in-Token.is)
    (part_variable_kind c.args.self.now c.in-Token.token c.in-Token.part c.pred_of.result
    (subst (λ (n : VarName). (base : Base) × HasBase c.args.self.now n base) c.in-Token.is c.requires) c.pred_of.ensures c.part_kind.result c.part_kind.ensures)
