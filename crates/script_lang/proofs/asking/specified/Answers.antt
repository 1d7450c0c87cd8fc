use Rattle.std.proofs.Common.{sym, subst, FitsSigned, w32, rules}
use Rattle.std.proofs.lemmas.Int.{to_z-of_z}
use Rattle.model_core.specs.declared.model.Model.{Model}
use Rattle.model_core.specs.declared.variable.Base.{Base}
use Rattle.model_core.specs.Kinds.{IsVariableOfKind}
use Rattle.model_core.specs.Variables.{HasBase}
use Rattle.script_lang.proofs.Asked.{specified_none, specified_some}
use Rattle.script_lang.proofs.asking.specified.Goals as goal

pub kind_of-kind-requires : goal.kind_of-kind-requires
kind_of-kind-requires c = subst (λ (m : Model). (base : Base) × HasBase m c.args.name base) (sym c.model.ensures) c.requires.there

pub returns-in-None : goal.returns-in-None
returns-in-None c =
    specified_none c.args.model.now c.args.name c.args.word.now c.kind_of-kind.result
    (subst (λ (m : Model). IsVariableOfKind m c.kind_of-kind.result c.args.name) c.model.ensures c.kind_of-kind.ensures) c.in-None.ensures

pub returns-in-Some : goal.returns-in-Some
returns-in-Some c =
    let fits : FitsSigned w32 c.in-Some.value = search rules in
    specified_some c.args.model.now c.args.name c.args.word.now c.kind_of-kind.result c.in-Some.value _ (to_z-of_z w32 c.in-Some.value fits)
    (subst (λ (m : Model). IsVariableOfKind m c.kind_of-kind.result c.args.name) c.model.ensures c.kind_of-kind.ensures) c.in-Some.ensures
