use Rattle.std.proofs.Common.{subst}
use Rattle.eu_name.proofs.Members.{get_same}
use Rattle.model_core.specs.declared.class.Class.{Class}
use Rattle.model_core.specs.Lawful.{IsLawfulObject}
use Rattle.model_typing.proofs.Telling.{told_as, told_not}
use Rattle.model_lawful.specs.Parts.{IsOfItsClass}
use Rattle.model_lawful.proofs.objects.is_lawful_object.Goals as goal

pub returns-in-Some : goal.returns-in-Some
returns-in-Some c =
    let model = c.args.model.now in
    let object = c.args.object.now in
    told_as c.is_of_class.result (IsOfItsClass model c.in-Some.class.now object) (IsLawfulObject model object)
    (λ of. record { name = of.name; class = c.in-Some.class.now; is_class = c.in-Some.ensures; fields = of.fields; kind = of.kind })
    (λ is. subst (λ (p : Class). IsOfItsClass model p object) (get_same model.classes object.class is.class c.in-Some.class.now is.is_class c.in-Some.ensures)
    (record { name = is.name; fields = is.fields; kind = is.kind }))
    c.is_of_class.ensures

pub returns-in-None : goal.returns-in-None
returns-in-None c = told_not _ (λ is. c.in-None.ensures is.class is.is_class)
