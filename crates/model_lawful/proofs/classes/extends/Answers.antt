use Rattle.std.proofs.Common.{sym, ◌∙◌, subst}
use Rattle.model_core.specs.Lawful.{ExtendsFields}
use Rattle.model_typing.proofs.Telling.{some_same, told_as, told_so}
use Rattle.model_lawful.specs.Classes.{Extends}
use Rattle.model_lawful.proofs.classes.extends.Goals as goal

pub returns-in-Some : goal.returns-in-Some
returns-in-Some c =
    let model = c.args.model.now in
    let class = c.args.class.now in
    told_as c.extends_fields.result (ExtendsFields model class c.in-Some.parent) (Extends model class)
    (λ fields parent same. subst (ExtendsFields model class) (some_same c.in-Some.parent parent (sym c.in-Some.is ∙ same)) fields)
    (λ extends. extends c.in-Some.parent c.in-Some.is) c.extends_fields.ensures

pub returns-in-None : goal.returns-in-None
returns-in-None c = told_so _ (λ parent same. let none = sym c.in-None.is ∙ same in cc)
