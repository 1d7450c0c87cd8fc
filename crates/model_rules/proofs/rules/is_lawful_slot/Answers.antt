use Rattle.std.proofs.Common.{subst}
use Rattle.eu_name.proofs.Members.{get_same}
use Rattle.model_core.specs.declared.class.Pred.{Pred}
use Rattle.model_core.specs.Lawful.{IsLawfulSlot}
use Rattle.model_core.specs.Kinds.{AreObjectsOf}
use Rattle.model_typing.proofs.Telling.{told_as, told_not}
use Rattle.model_rules.specs.Rules.{IsBaseOfClass}
use Rattle.model_rules.proofs.rules.is_lawful_slot.Goals as goal

pub returns-in-Some : goal.returns-in-Some
returns-in-Some c =
    told_as c.is_base_of_class.result (IsBaseOfClass c.args.model.now c.in-Some.pred.now.class c.args.slot.now.object) (IsLawfulSlot c.args.model.now c.args.slot.now)
    (λ of. record { pred = c.in-Some.pred.now; is_pred = c.in-Some.ensures; base = of.base_is; inside = of.inside; objects = of.objects })
    (λ is. record {
      base_is = is.base;
      inside = is.inside;
      objects = subst (λ (p : Pred). AreObjectsOf c.args.model.now p.class c.args.slot.now.object)
          (get_same c.args.model.now.preds c.args.slot.now.pred is.pred c.in-Some.pred.now is.is_pred c.in-Some.ensures) is.objects;
    })
    c.is_base_of_class.ensures

pub returns-in-None : goal.returns-in-None
returns-in-None c = told_not _ (λ is. c.in-None.ensures is.pred is.is_pred)
