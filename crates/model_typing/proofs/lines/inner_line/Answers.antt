use Rattle.std.proofs.Common.{sym, subst}
use Rattle.model_core.specs.declared.item.Term.{Term}
use Rattle.model_core.specs.Kinds.{OfRule, IsInner}
use Rattle.model_typing.specs.Terms.{IsTermLine}
use Rattle.model_typing.proofs.lines.inner_line.Goals as goal

pub returns-in-Here : goal.returns-in-Here
returns-in-Here c =
    subst (λ (t : Term). IsInner t → IsTermLine c.args.model.now (OfRule c.args.pred c.args.rule.now) t c.part_line.result) (sym c.in-Here.is) (λ inner. c.part_line.ensures)

pub returns-in-Slot : goal.returns-in-Slot
returns-in-Slot c =
    subst (λ (t : Term). IsInner t → IsTermLine c.args.model.now (OfRule c.args.pred c.args.rule.now) t c.slot_line.result) (sym c.in-Slot.is) (λ inner. c.slot_line.ensures)

pub returns-in-Local : goal.returns-in-Local
returns-in-Local c =
    subst (λ (t : Term). IsInner t → IsTermLine c.args.model.now (OfRule c.args.pred c.args.rule.now) t c.local_line.result) (sym c.in-Local.is) (λ inner. c.local_line.ensures)
