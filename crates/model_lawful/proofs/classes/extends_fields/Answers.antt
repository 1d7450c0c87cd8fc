use Rattle.std.proofs.Common.{◌++◌, sym, ap, ◌∙◌}
use Rattle.eu_name.proofs.Members.{get_same}
use Rattle.model_core.specs.declared.class.Class.{Class}
use Rattle.model_core.specs.Lawful.{ExtendsFields}
use Rattle.model_typing.proofs.Telling.{told_as, told_not}
use Rattle.model_lawful.specs.Classes.{BeginsWith}
use Rattle.model_lawful.proofs.classes.extends_fields.Goals as goal

pub returns-in-Some : goal.returns-in-Some
returns-in-Some c =
    let model = c.args.model.now in
    let class = c.args.class.now in
    told_as c.begin_with.result (BeginsWith c.as_slice.result.now c.as_slice-in-Some.result.now) (ExtendsFields model class c.args.parent)
    (λ begins. record {
      above = c.in-Some.above.now;
      own = begins.0;
      is_above = c.in-Some.ensures;
      fields = sym c.as_slice.ensures ∙ (begins.1 ∙ ap (λ l. l ++ begins.0) c.as_slice-in-Some.ensures);
    })
    (λ is.
    let same = get_same model.classes c.args.parent is.above c.in-Some.above.now is.is_above c.in-Some.ensures in
    (is.own, c.as_slice.ensures ∙ (is.fields ∙ (ap (λ (k : Class). k.fields ++ is.own) same ∙ ap (λ l. l ++ is.own) (sym c.as_slice-in-Some.ensures)))))
    c.begin_with.ensures

pub returns-in-None : goal.returns-in-None
returns-in-None c = told_not _ (λ is. c.in-None.ensures is.above is.is_above)
