use Rattle.std.proofs.Common.{sym, subst}
use Rattle.eu_name.specs.declared.name.Part.{Part}
use Rattle.model_core.specs.Kinds.{IsPartOfKind}
use Rattle.model_typing.specs.Terms.{IsJust}
use Rattle.model_typing.proofs.kinds.part_kind.Goals as goal

pub returns-in-Param : goal.returns-in-Param
returns-in-Param c =
    subst (λ (p : Part). IsJust c.param_kind.result (λ kind. IsPartOfKind c.args.model.now c.args.pred kind p)) (sym c.in-Param.is) c.param_kind.ensures
