use Rattle.std.proofs.Common.{subst}
use Rattle.eu_name.proofs.Members.{get_same}
use Rattle.model_core.specs.declared.class.Pred.{Pred}
use Rattle.model_core.specs.Lawful.{IsLawfulRoot}
use Rattle.model_typing.proofs.Telling.{told_as, told_not}
use Rattle.model_lawful.specs.Parts.{IsRootOf}
use Rattle.model_lawful.proofs.problem.is_lawful_root.Goals as goal

pub returns-in-Some : goal.returns-in-Some
returns-in-Some c =
    let model = c.args.model.now in
    let root = c.args.root.now in
    told_as c.is_root_of.result (IsRootOf model c.in-Some.pred.now root) (IsLawfulRoot model root)
    (λ of. record { label = of.label; pred = c.in-Some.pred.now; is_pred = c.in-Some.ensures; given = of.given; object = of.object; inside = of.inside; objects = of.objects })
    (λ is. subst (λ (p : Pred). IsRootOf model p root) (get_same model.preds root.pred is.pred c.in-Some.pred.now is.is_pred c.in-Some.ensures)
    (record { label = is.label; given = is.given; object = is.object; inside = is.inside; objects = is.objects }))
    c.is_root_of.ensures

pub returns-in-None : goal.returns-in-None
returns-in-None c = told_not _ (λ is. c.in-None.ensures is.pred is.is_pred)
