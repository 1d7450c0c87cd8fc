use Rattle.std.proofs.Common.{sym, subst}
use Rattle.model_core.specs.declared.item.Term.{Term}
use Rattle.model_core.specs.Kinds.{IsOfKind, OfRule, IsInner}
use Rattle.model_typing.specs.Terms.{IsJust}
use Rattle.model_typing.proofs.kinds.inner_kind.Goals as goal

pub returns-in-Here : goal.returns-in-Here
returns-in-Here c =
    subst (λ (t : Term). IsInner t → IsJust c.part_kind.result (λ kind. IsOfKind c.args.model.now (OfRule c.args.pred c.args.rule.now) kind t)) (sym c.in-Here.is)
    (λ inner. c.part_kind.ensures)

pub returns-in-Slot : goal.returns-in-Slot
returns-in-Slot c =
    subst (λ (t : Term). IsInner t → IsJust c.slot_kind.result (λ kind. IsOfKind c.args.model.now (OfRule c.args.pred c.args.rule.now) kind t)) (sym c.in-Slot.is)
    (λ inner. c.slot_kind.ensures)

pub returns-in-Local : goal.returns-in-Local
returns-in-Local c =
    subst (λ (t : Term). IsInner t → IsJust c.local_kind.result (λ kind. IsOfKind c.args.model.now (OfRule c.args.pred c.args.rule.now) kind t)) (sym c.in-Local.is)
    (λ inner. c.local_kind.ensures)
