use Rattle.std.proofs.Common.{sym, subst}
use Rattle.model_core.specs.declared.item.Term.{Term}
use Rattle.model_core.specs.Kinds.{IsOfKind, IsInner}
use Rattle.model_typing.specs.Terms.{IsJust, IsNamed, scope_of}
use Rattle.model_typing.proofs.kinds.named_kind.Goals as goal

pub returns-in-Global : goal.returns-in-Global
returns-in-Global c =
    subst (λ (t : Term). IsNamed t → IsJust c.global_kind.result (λ kind. IsOfKind c.args.model.now (scope_of c.args.scope) kind t)) (sym c.in-Global.is)
    (λ named. c.global_kind.ensures)

pub returns-in-Root : goal.returns-in-Root
returns-in-Root c =
    subst (λ (t : Term). IsNamed t → IsJust c.root_kind.result (λ kind. IsOfKind c.args.model.now (scope_of c.args.scope) kind t)) (sym c.in-Root.is)
    (λ named. c.root_kind.ensures)

pub returns-in-Here : goal.returns-in-Here
returns-in-Here c = λ named. c.scoped_kind.ensures (subst IsInner (sym c.in-Here.is) tt)

pub returns-in-Slot : goal.returns-in-Slot
returns-in-Slot c = λ named. c.scoped_kind-in-Slot.ensures (subst IsInner (sym c.in-Slot.is) tt)

pub returns-in-Local : goal.returns-in-Local
returns-in-Local c = λ named. c.scoped_kind-in-Local.ensures (subst IsInner (sym c.in-Local.is) tt)
