use Rattle.std.proofs.Common.{ℤ, List, ◌↔◌, IsTrue, subst}
use Rattle.std.specs.List.{AllZip}
use Rattle.model_core.specs.declared.variable.VarDecl.{VarDecl}
use Rattle.model_core.specs.Kinds.{IsValueOf}
use Rattle.model_lawful.proofs.objects.has_field_values.Goals as goal

pub returns : goal.returns
returns c =
    let of = λ (variable : VarDecl) (value : ℤ). IsValueOf c.args.model.now variable.kind value in
    subst (λ (fields : List VarDecl). IsTrue c.are_values_of.result ↔ AllZip of fields c.args.object.now.fields) c.as_slice.ensures
    (subst (λ (values : List ℤ). IsTrue c.are_values_of.result ↔ AllZip of c.as_slice.result.now values) c.as_slice-2.ensures c.are_values_of.ensures)
